-- The words of a memory that keeps pages of 16 words, in which words were written
use Rattle.std.specs.Prelude.{ℕ, List, [], ◌∷◌, ◌/◌, ◌%◌, ◌==◌, if◌then◌else◌, slice_index, replicate}
use Rattle.guest_memory.specs.declared.page.Page.{Page}
use Rattle.guest_memory.specs.declared.sparse_memory.SparseMemory.{SparseMemory}

-- the words of the page with a number, or zeros where there is none
abbrev pub page_in : List Page → ℕ → List ℕ
page_in [] number = replicate 16 0
page_in (page ∷ pages) number = if page.number == number then page.words else page_in pages number

-- the word at an address; no word begins between multiples of 4
abbrev pub word_of : List Page → ℕ → ℕ
word_of pages a = if a % 4 == 0 then slice_index (page_in pages (a / 64)) (a / 4 % 16) else 0

abbrev pub word_in : SparseMemory → ℕ → ℕ
word_in m = word_of m.pages.items

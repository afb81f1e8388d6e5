-- When the input context of a command under way counts as changed
use Rattle.world_state.proofs.Words.{◌≡◌, ℕ, true, false, [], ◌∷◌, Some, refl, put, Bytes32, One, Header, World, UnderWay, opening, has_changed_context, world_on_literals}

header : Header
header = record { version = One; context_size = Bytes32; rings = [] }

-- an Address Device that lies at 0x10010, with its input context at 0x60000
address_device : UnderWay
address_device = record { address = 0x10010; block = record { w = 0x60000 ∷ 0 ∷ 0 ∷ 0x01002c01 ∷ [] }; has_stopped = false }

-- a word of the input context was changed at step 5, and the command's control word last written at this one
unfoldable changed_then : ℕ → World
changed_then written = record opening { changed = put (λ a. 0) 0x60020 5; written = put (λ a. 0) 0x1001c written }

changed_behind_the_giving : has_changed_context header (changed_then 4) (Some address_device) ≡ true
unfolding header address_device changed_then world_on_literals
changed_behind_the_giving = refl

-- what counts is when the control word was last written as of now, also where that was after the take
control_word_written_again : has_changed_context header (changed_then 6) (Some address_device) ≡ false
unfolding header address_device changed_then world_on_literals
control_word_written_again = refl

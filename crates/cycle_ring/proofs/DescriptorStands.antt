-- Played into memory, the writes of a descriptor that is shorter than a lap put its blocks and the Links before them at
-- their places, and no other word
use Rattle.cycle_ring.proofs.LowerLaws.{suc, rules, ◌≡◌, ◌+◌, ◌-◌, ◌*◌, ◌<◌, ◌≤◌, ◌∷◌, ◌++◌, ◌∙◌, ℕ, Bool, false, List, [], take, drop, length, arith, refl, ap, sym, inl, inr, Some, Option, nat_lt, get_or, lit<, Contains, slice_get, take-append-drop, length-append, cases_lt, slice_get_within, slice_get-get_or, Contains-append_left, Contains-append_cases, take-append-le, Block, word, Place, Data, Link, Shape, IsShape, place_at, place_of, address_of, cycle_of, link_crossed, link_address, place_count, same_position_near, same_crossing, is_crossing-from, place_at-address_of, place_at-link_address, link_block, low_writes, control_write, block_at_position, way_writes, later_writes, writes_of, played, BlocksStand, LinksStand, OthersStay, GivenLast, played-written, played-elsewhere, block_at-words, same_address, IsWordOf, IsWordOfLink, IsWordAt, IsWritten, way_writes-words, later_writes-words, writes_of-words, word_of_descriptor_written}

some_parts : {A : Type 0} {a c : A} → Some a ≡ Some c → a ≡ c
some_parts same = cc

data_parts : (i j v w : ℕ) → (let a : Place = Data i v in a) ≡ Data j w → (i ≡ j) × (v ≡ w)
data_parts i j v w same = (cc, cc)

link_parts : (i j v w : ℕ) → (let a : Place = Link i v in a) ≡ Link j w → (i ≡ j) × (v ≡ w)
link_parts i j v w same = (cc, cc)

module _ (shape : Shape) (is_shape : IsShape shape) where
  -- a word of the block at a position, and one of a Link, by the place that has it
  block_place : (q : ℕ) (b : Block) (x v : ℕ) → (of : IsWordOf (address_of shape q) b x v) → place_at shape x ≡ Some (Data (place_of shape q) of.w)
  block_place q b x v of = search (rules, place_at-address_of)

  link_place : (q : ℕ) (chain : Bool) (x v : ℕ) → (is : IsWordOfLink shape q chain x v) → place_at shape x ≡ Some (Link is.i is.of.w)
  link_place q chain x v is = search (rules, place_at-link_address)

  -- two words of blocks at one address: they have one number, their positions are one, and so are they
  same_number :
      (q r : ℕ) (b d : Block) (x v u : ℕ) → (of : IsWordOf (address_of shape q) b x v) → (of' : IsWordOf (address_of shape r) d x u) → of.w ≡ of'.w
  same_number q r b d x v u of of' =
      (data_parts (place_of shape q) (place_of shape r) of.w of'.w (some_parts (sym (block_place q b x v of) ∙ block_place r d x u of'))).1

  same_block_position :
      (q r : ℕ) (b d : Block) (x v u : ℕ) → q < r + place_count shape → r < q + place_count shape
      → IsWordOf (address_of shape q) b x v → IsWordOf (address_of shape r) d x u → q ≡ r
  same_block_position q r b d x v u near near' of of' =
      let same_w : of.w ≡ of'.w = same_number q r b d x v u of of' in
      let at : x ≡ address_of shape q + 4 * of.w = of.at in
      search (rules, of'.at, address_of, same_position_near)

  same_block_word :
      (q r : ℕ) (b d : Block) (x v u : ℕ) → q < r + place_count shape → r < q + place_count shape
      → IsWordOf (address_of shape q) b x v → IsWordOf (address_of shape r) d x u → (q ≡ r → b ≡ d) → v ≡ u
  same_block_word q r b d x v u near near' of of' one_block =
      let one : b ≡ d = one_block (same_block_position q r b d x v u near near' of of') in
      of.value ∙ ap (λ n. word b n) (same_number q r b d x v u of of') ∙ ap (λ (e : Block). word e of'.w) one ∙ sym of'.value

  -- two words of Links, at one address
  same_link_word :
      (q r : ℕ) (chain chain' : Bool) (x v u : ℕ) → q < r + place_count shape → r < q + place_count shape
      → IsWordOfLink shape q chain x v → IsWordOfLink shape r chain' x u → (q ≡ r → chain ≡ chain') → v ≡ u
  same_link_word q r chain chain' x v u near near' is is' one_chain =
      let places : (is.i ≡ is'.i) × (is.of.w ≡ is'.of.w) =
      link_parts is.i is'.i is.of.w is'.of.w (some_parts (sym (link_place q chain x v is) ∙ link_place r chain' x u is')) in
      search (rules, places.0, link_crossed, Some, cases_lt, same_crossing, word, link_block, cycle_of)

  -- no word is one of a block and one of a Link
  block_not_link :
      (q r : ℕ) (b : Block) (chain : Bool) (x v u : ℕ)
      → IsWordOf (address_of shape q) b x v → IsWordOfLink shape r chain x u → ⊥
  block_not_link q r b chain x v u of is =
      apart (place_of shape q) is.i of.w is.of.w (sym (block_place q b x v of) ∙ link_place r chain x u is)
    where
      apart : (i j w w' : ℕ) → (let a : Option Place = Some (Data i w) in a) ≡ Some (Link j w') → ⊥
      apart i j w w' same = cc

  module _ (first : ℕ) (blocks : List Block) (in_lap : length blocks < place_count shape) where
    -- the writes of one address write one word
    one_word : (x v u : ℕ) → IsWritten shape first first blocks x v → IsWritten shape first first blocks x u → v ≡ u
    one_word x v u h k =
        let position : h.q ≡ first + h.j = h.position in
        let position' : k.q ≡ first + k.j = k.position in
        let within : h.j < length blocks = slice_get_within blocks h.j h.b h.block in
        let within' : k.j < length blocks = slice_get_within blocks k.j k.b k.block in
        let near : h.q < k.q + place_count shape = omega arith in
        let near' : k.q < h.q + place_count shape = omega arith in
        let one_block : h.q ≡ k.q → block_at_position shape h.q h.b ≡ block_at_position shape k.q k.b = search (rules, at_one_position) in
        elim h.is_word [
          | inl of_block ↦
              elim k.is_word [
                | inl of_block' ↦ search (rules, same_block_word)
                | inr of_link' ↦ absurd (block_not_link h.q k.q (block_at_position shape h.q h.b) (nat_lt first k.q) x v u of_block of_link')
              ]
          | inr of_link ↦
              elim k.is_word [
                | inl of_block' ↦ absurd (block_not_link k.q h.q (block_at_position shape k.q k.b) (nat_lt first h.q) x u v of_block' of_link)
                | inr of_link' ↦ same_link_word h.q k.q (nat_lt first h.q) (nat_lt first k.q) x v u near near' of_link of_link' (ap (λ n. nat_lt first n))
              ]
        ]
      where
        at_one_position :
            (h : IsWritten shape first first blocks x v) (k : IsWritten shape first first blocks x u)
            → h.q ≡ k.q → h.j ≡ k.j → block_at_position shape h.q h.b ≡ block_at_position shape k.q k.b
        at_one_position h k same same_j = search (rules, slice_get, Some, block_at_position)

    -- a word that is written stands in memory after the writes
    word_stands :
        (memory : ℕ → ℕ) (j q : ℕ) (b : Block) (x v : ℕ)
        → q ≡ first + j → slice_get blocks j ≡ Some b → IsWordAt shape q (nat_lt first q) b x v
        → played memory (writes_of shape first blocks) x ≡ v
    word_stands memory j q b x v position block is_word =
        let written : IsWritten shape first first blocks x v = search rules in
        search (rules, played-written, word_of_descriptor_written, one_word, writes_of-words)

    pub blocks_stand : BlocksStand shape first blocks (writes_of shape first blocks)
    blocks_stand memory i b which =
        let q = first + i in
        let a = address_of shape q in
        let head = block_at_position shape q b in
        block_at-words (played memory (writes_of shape first blocks)) a (word head 0) (word head 1) (word head 2) (word head 3)
        (stands a 0 (lit< tt) (omega arith)) (stands (a + 4) 1 (lit< tt) refl) (stands (a + 8) 2 (lit< tt) refl) (stands (a + 12) 3 (lit< tt) refl)
      where
        stands :
            (x w : ℕ) → w < 4 → x ≡ address_of shape (first + i) + 4 * w
            → played memory (writes_of shape first blocks) x ≡ word (block_at_position shape (first + i) b) w
        stands x w small at =
            word_stands memory i (first + i) b x (word (block_at_position shape (first + i) b) w) refl which
            (inl (record { w = w; small = small; at = at; value = refl }))

    pub links_stand : LinksStand shape first blocks (writes_of shape first blocks)
    links_stand memory q i from below crossed =
        let a = link_address shape q in
        let link = link_block shape i (cycle_of shape (q - 1)) (nat_lt first q) in
        block_at-words (played memory (writes_of shape first blocks)) a (word link 0) (word link 1) (word link 2) (word link 3)
        (stands a 0 (lit< tt) (omega arith)) (stands (a + 4) 1 (lit< tt) refl) (stands (a + 8) 2 (lit< tt) refl) (stands (a + 12) 3 (lit< tt) refl)
      where
        stands :
            (x w : ℕ) → w < 4 → x ≡ link_address shape q + 4 * w
            → played memory (writes_of shape first blocks) x ≡ word (link_block shape i (cycle_of shape (q - 1)) (nat_lt first q)) w
        stands x w small at =
            let none : Block = record { w = [] } in
            word_stands memory (q - first) q (get_or blocks (q - first) none) x (word (link_block shape i (cycle_of shape (q - 1)) (nat_lt first q)) w)
            (omega arith) (slice_get-get_or blocks (q - first) none (omega arith))
            (inr (record { i = i; crossed = crossed; of = record { w = w; small = small; at = at; value = refl } }))

    pub others_stay : OthersStay shape first blocks (writes_of shape first blocks)
    others_stay memory x elsewhere =
        played-elsewhere memory (writes_of shape first blocks) x
        (λ u contained. not_written u (writes_of-words shape first blocks x u contained))
      where
        not_written : (u : ℕ) → IsWritten shape first first blocks x u → ⊥
        not_written u h =
            let position : h.q ≡ first + h.j = h.position in
            let within : h.j < length blocks = slice_get_within blocks h.j h.b h.block in
            elim h.is_word [
              | inl of_block ↦ elsewhere.no_block h.q of_block.w (omega arith) (omega arith) of_block.small of_block.at
              | inr of_link ↦
                  elsewhere.no_link h.q of_link.of.w (omega arith) (omega arith) (is_crossing-from shape h.q of_link.i of_link.crossed) of_link.of.small of_link.of.at
            ]

    -- before the first block's control word no write has its address
    not_before :
        (b : Block) (rest : List Block) (u : ℕ) → blocks ≡ b ∷ rest
        → Contains (way_writes shape first false ++ low_writes (address_of shape first) (block_at_position shape first b) ++ later_writes shape (first + 1) rest)
        (address_of shape first + 12, u) → ⊥
    not_before b rest u are contained =
        let way = way_writes shape first false in
        let low = low_writes (address_of shape first) (block_at_position shape first b) in
        elim (Contains-append_cases (way ++ low) (later_writes shape (first + 1) rest) (address_of shape first + 12, u) contained) [
          | inl here ↦
              elim (Contains-append_cases way low (address_of shape first + 12, u) here) [
                | inl in_way ↦ search (rules, block_not_link, none, address_of, word, control, way_writes-words)
                | inr in_low ↦ not_low (address_of shape first) (block_at_position shape first b) u in_low
              ]
          | inr in_later ↦ not_later (later_writes-words shape first (first + 1) rest (address_of shape first + 12) u (omega arith) in_later)
        ]
      where
        none : Block
        none = record { w = [] }

        control : IsWordOf (address_of shape first) none (address_of shape first + 12) (word none 3)
        control = record { w = 3; small = lit< tt; at = refl; value = refl }

        not_low : (a : ℕ) (c : Block) (v : ℕ) → Contains (low_writes a c) (a + 12, v) → ⊥
        not_low a c v x3 = search (rules, same_address)

        not_later : IsWritten shape first (first + 1) rest (address_of shape first + 12) u → ⊥
        not_later h =
            let behind : h.q ≡ (first + 1) + h.j = h.position in
            let within : h.j < length rest = slice_get_within rest h.j h.b h.block in
            let longer : length blocks ≡ suc (length rest) = ap length are in
            elim h.is_word [
              | inl of_block ↦
                  let same : first ≡ h.q =
                  same_block_position first h.q none (block_at_position shape h.q h.b) (address_of shape first + 12) (word none 3) u
                  (omega arith) (omega arith) control of_block in
                  omega arith
              | inr of_link ↦ block_not_link first h.q none (nat_lt first h.q) (address_of shape first + 12) (word none 3) u control of_link
            ]

pub given_last :
    (shape : Shape) → IsShape shape → (first : ℕ) (blocks : List Block) → length blocks < place_count shape
    → GivenLast shape first (writes_of shape first blocks)
given_last shape is_shape first [] in_lap memory n within = absurd (omega arith)
given_last shape is_shape first (b ∷ rest) in_lap memory n within =
    let a = address_of shape first in
    let control = control_write a (block_at_position shape first b) in
    let front = way_writes shape first false ++ low_writes a (block_at_position shape first b) ++ later_writes shape (first + 1) rest in
    let counted : length (front ++ control) ≡ length front + 1 = length-append front control in
    let in_front : n ≤ length front = omega arith in
    let taken : take n (front ++ control) ≡ take n front = take-append-le n front control in_front in
    played-elsewhere memory (take n (front ++ control)) (a + 12)
    (λ u contained. not_before shape is_shape first (b ∷ rest) in_lap b rest u refl (whole front n (a + 12, u) (rw taken at contained)))
  where
    whole : (writes : List (ℕ × ℕ)) (k : ℕ) (x : ℕ × ℕ) → Contains (take k writes) x → Contains writes x
    whole writes k x contained = rw take-append-drop at (Contains-append_left (take k writes) (drop k writes) x contained)

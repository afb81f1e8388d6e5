use Rattle.controller_model.proofs.Words.{◌≡◌, ◌<◌, ◌&&◌, ℕ, true, Some, slice_get, take, list_any, Ring, shape_of, may_be_inside, World, has_other_words, is_inside_descriptor, is_out_of_order, waits, Follows}
use Rattle.controller_model.proofs.safety.ring_harms.Given as goal

-- the harms of the rings so far
abbrev pub invariant-loop-ring : goal.invariant-loop-ring
invariant-loop-ring g l = record {
  items : l.ring-items ≡ l.header.rings;
  order : (w : World) → Follows l.header (g.M.WordMemory.words l.memory) l.kept w →
      l.harms.out_of_order ≡ list_any (λ ring. is_out_of_order (shape_of l.header ring.id) (w.events ring.id)) (take l.ring-index l.header.rings);
  words : (w : World) → Follows l.header (g.M.WordMemory.words l.memory) l.kept w →
      l.harms.other_words ≡ list_any (λ ring. has_other_words (shape_of l.header ring.id) (w.events ring.id)) (take l.ring-index l.header.rings);
  waiting : (w : World) → Follows l.header (g.M.WordMemory.words l.memory) l.kept w →
      l.harms.waits_inside ≡ list_any (λ ring. waits w ring.id && is_inside_descriptor (w.events ring.id)) (take l.ring-index l.header.rings);
  inside : (w : World) → Follows l.header (g.M.WordMemory.words l.memory) l.kept w → (i : ℕ) (q : Ring) → i < l.ring-index → slice_get l.header.rings i ≡ Some q →
      is_inside_descriptor (w.events q.id) ≡ true → may_be_inside l.harms.inside q.id ≡ true;
}

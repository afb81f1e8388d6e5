-- Held at greater numbers, and again at greater ones
use Rattle.safety.proofs.Words.{ℕ, Option, arith, refl, Known, IsHeldMore, HeldMore, rules}

pub held_same : (o : Option ℕ) → IsHeldMore o o
held_same o = grind arith

pub held_twice : (a b c : Option ℕ) → IsHeldMore a b → IsHeldMore b c → IsHeldMore a c
held_twice o z c x y = grind arith

pub held_more_same : (k : Known) → HeldMore k k
held_more_same k = record { rest = refl; rings = λ r. record { rest = refl; held = held_same (k.ring r).held } }

pub held_more_twice : (k l m : Known) → HeldMore k l → HeldMore l m → HeldMore k m
held_more_twice k l m x y = search (rules, held_twice)

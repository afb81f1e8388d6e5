-- The left-out endpoints of a command, by the words of memory
use Rattle.driver_rows.proofs.Words.{rules, ◌≡◌, ◌&&◌, ◌||◌, ◌∷◌, ℕ, Bool, true, false, not, List, [], refl, sym, ap, ◌∙◌, list_any, Command, NoOp, EnableSlot, DisableSlot, AddressDevice, ConfigureEndpoint, EvaluateContext, ResetEndpoint, StopEndpoint, SetTrDequeue, ResetDevice, Header, is_lenient, Known, adds_isochronous, adds_streams, type_in, streams_in, has_left_out_endpoint, adds_left_out, is_left_out_by, is_left_out_in}

nothing_else : (b : Bool) → false ≡ ((false && b) || false)
nothing_else b = search rules

-- of some of them the one or the other
some_of_both : (b : Bool) (f g : ℕ → Bool) (xs : List ℕ) → list_any (λ x. (f x && b) || g x) xs ≡ ((list_any f xs && b) || list_any g xs)
some_of_both b f g [] = nothing_else b
some_of_both b f g (x ∷ xs) = ap (λ t. ((f x && b) || g x) || t) (some_of_both b f g xs) ∙ (search rules)

known : (h : Header) (k : Known) (c : Command) → is_left_out_by (not (is_lenient h.version)) k.memory h.context_size c ≡ has_left_out_endpoint h k c
unfolding has_left_out_endpoint adds_isochronous adds_streams type_in streams_in adds_left_out is_left_out_in
known h k (AddressDevice s bsr a) = refl
known h k (ConfigureEndpoint s true a) = nothing_else (not (is_lenient h.version))
known h k (ConfigureEndpoint s false a) = search (rules, some_of_both)
known h k NoOp = nothing_else (not (is_lenient h.version))
known h k EnableSlot = nothing_else (not (is_lenient h.version))
known h k (DisableSlot s) = nothing_else (not (is_lenient h.version))
known h k (EvaluateContext s a) = nothing_else (not (is_lenient h.version))
known h k (ResetEndpoint s i) = nothing_else (not (is_lenient h.version))
known h k (StopEndpoint s i) = nothing_else (not (is_lenient h.version))
known h k (SetTrDequeue s i p cycle) = nothing_else (not (is_lenient h.version))
known h k (ResetDevice s) = nothing_else (not (is_lenient h.version))

pub left_out : (h : Header) (k : Known) (memory : ℕ → ℕ) (c : Command) → ((a : ℕ) → k.memory a ≡ memory a) →
    is_left_out_by (not (is_lenient h.version)) memory h.context_size c ≡ has_left_out_endpoint h k c
left_out h k memory c words = sym (λ i. is_left_out_by (not (is_lenient h.version)) (λ a. words a i) h.context_size c) ∙ known h k c

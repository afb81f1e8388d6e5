-- What the success of each command does to the records of rings and devices
use Rattle.event_rows.proofs.LowerLaws.{◌≡◌, ℕ, List, ap, sym, fun_ext, Command, changes, Header, RingRecord, Known, changed_by_all, succeeded, DeviceRecord, FollowsDevices, FollowsPlaces, HasWords, subst, MayChangeAll, rings_same, ◌∙◌}

-- where rings stay as they are
pub devices_only : (h : Header) (k l : Known) (rs : List RingRecord) (d e : DeviceRecord) → FollowsPlaces h k rs d → l.ring ≡ k.ring → FollowsDevices l e → FollowsPlaces h l rs e
devices_only h k l rs d e f same g = record { rings = rings_same h k l rs f.rings same; devices = g }

pub words_are : (k : Known) (words : ℕ → ℕ) → HasWords k words → k.memory ≡ words
words_are k words same = fun_ext same

-- the changes of a success are those of the command that it is, by the words that memory has
pub success_by : (h : Header) (k : Known) (c e : Command) (n : ℕ) (words : ℕ → ℕ) (rs : List RingRecord) (d : DeviceRecord) → HasWords k words → c ≡ e → MayChangeAll h c k (changes h.context_size k.memory n c) →
    (MayChangeAll h c k (changes h.context_size words n e) → FollowsPlaces h (changed_by_all h c k (changes h.context_size words n e)) rs d) → FollowsPlaces h (succeeded h k n c) rs d
unfolding succeeded
success_by h k c e n words rs d same is may f =
    let all = ap (λ m. changes h.context_size m n c) (words_are k words same) ∙ ap (λ x. changes h.context_size words n x) is in
    subst (λ xs. FollowsPlaces h (changed_by_all h c k xs) rs d) (sym all) (f (subst (λ xs. MayChangeAll h c k xs) all may))

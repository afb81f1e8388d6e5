-- The write of ERSTBA begins the lease of the segment table, and no other
use Rattle.leases.proofs.LowerLaws.{false_unless, ◌≡◌, ◌∷◌, ◌++◌, ℕ, Bool, true, not, List, [], filter, None, sym, ap, subst, refl, flat_map, filter-append, table_bytes, Header, Ring, Reg, Erstba, driver_rings, event_shape, base_address, Known, learned, register_written, valued, entry_of, Leased, Range, SegmentTable, context_ranges, device_ranges, entry_ranges, is_among, open_leases, open_on, open_ranges, range_of_entry, segment_ranges, table_range, IsIn, among_is, in_among, in_turn, with_begun, with_leased, Lent, grown, AreOpen, rules, InOn, block, either_into, five_into, in_left, in_right, link, each_open, of_range, none_new, only_begun}
unfoldable use Rattle.leases.proofs.BaseWords.{resets}
use Rattle.ring_knowledge.specs.Rings as rings

abbrev pub IsNoTable : Leased → Type 0
IsNoTable (Range n a SegmentTable) = ⊥
IsNoTable _ = Unit {0}

module _ (h : Header) (k : Known) where
  on_ring : (q : Ring) (l : Leased) → InOn q (k.ring q.id) l → IsNoTable l
  on_ring q _ (block p low high given) = tt
  on_ring q _ (link c low high crossed) = tt

  abbrev rings_part : List Leased
  rings_part = flat_map (open_on h k) (driver_rings h)

  module _ (unwritten : k.register Erstba ≡ None) where
    -- the open leases, part by part
    parts : open_leases h k ≡ rings_part ++ (segment_ranges h ++ [] ++ context_ranges h k ++ entry_ranges k ++ device_ranges h k)
    unfolding open_leases open_ranges table_range
    parts = rw unwritten refl

    pub no_table : (l : Leased) → IsIn l (open_leases h k) → IsNoTable l
    no_table l at =
        each_open h k IsNoTable (λ q among. on_ring q) (of_range h k IsNoTable (search rules)) l (in_among (open_leases h k) l at)

  module _ (unwritten : k.register Erstba ≡ None) (v : ℕ) where
    abbrev k' : Known
    k' = learned h k (Reg Erstba v)

    abbrev the_table : Leased
    the_table = Range (table_bytes (event_shape h)) (base_address v) SegmentTable

    parts_after : open_leases h k' ≡ rings_part ++ (segment_ranges h ++ the_table ∷ [] ++ context_ranges h k ++ entry_ranges k ++ device_ranges h k)
    unfolding open_leases open_ranges table_range learned register_written valued context_ranges rings.unfinished_positions rings.command_at device_ranges open_on entry_ranges range_of_entry entry_of
    parts_after = refl

    abbrev IsNew : Leased → Bool
    IsNew l = not (is_among (open_leases h k) l)

    table_is_new : IsNew the_table ≡ true
    table_is_new = ap not (false_unless _ (λ among. no_table unwritten the_table (among_is (open_leases h k) the_table among)))

    old_fail : (ls : List Leased) → ((l : Leased) → IsIn l ls → IsIn l (open_leases h k)) → filter IsNew ls ≡ []
    old_fail ls there = none_new (open_leases h k) ls (λ l at. in_among (open_leases h k) l (there l at))

    in_parts : (l : Leased) → IsIn l (rings_part ++ (segment_ranges h ++ [] ++ context_ranges h k ++ entry_ranges k ++ device_ranges h k)) → IsIn l (open_leases h k)
    in_parts l at = subst (IsIn l) (sym (parts unwritten)) at

    begun_is : filter IsNew (open_leases h k') ≡ the_table ∷ []
    begun_is =
        let rest = segment_ranges h ++ [] ++ context_ranges h k ++ entry_ranges k ++ device_ranges h k in
        let ranges : (l : Leased) → IsIn l rest → IsIn l (open_leases h k) = λ l at. in_parts l (in_right l rings_part rest at) in
        rw (parts_after, filter-append IsNew rings_part, old_fail rings_part (λ l at. in_parts l (in_left l rings_part rest at)))
        (rw (
          filter-append IsNew (segment_ranges h ++ the_table ∷ [] ++ context_ranges h k ++ entry_ranges k),
          filter-append IsNew (segment_ranges h ++ the_table ∷ [] ++ context_ranges h k),
          filter-append IsNew (segment_ranges h ++ the_table ∷ []),
          filter-append IsNew (segment_ranges h),
          old_fail (segment_ranges h) (search (rules, ranges, in_left)),
          old_fail (context_ranges h k) (search (rules, ranges, in_left, in_right)),
          old_fail (entry_ranges k) (search (rules, ranges, in_left, in_right)),
          old_fail (device_ranges h k) (search (rules, ranges, in_right)),
          table_is_new,
        ) refl)

    all_stay : (l : Leased) → is_among (open_leases h k) l ≡ true → is_among (open_leases h k') l ≡ true
    all_stay l among = in_among (open_leases h k') l (rw parts_after (either_into (IsIn l) (in_left l) (in_right l) l rings_part _ rings_part _ (λ here. here)
        (five_into (IsIn l) (in_left l) (in_right l) l (segment_ranges h) [] (context_ranges h k) (entry_ranges k) (device_ranges h k) (segment_ranges h) (the_table ∷ [])
        (context_ranges h k)
        (entry_ranges k) (device_ranges h k) (λ here. here) (λ none. absurd none) (λ here. here) (λ here. here) (λ here. here))
        (rw (← parts unwritten) (among_is (open_leases h k) l among))))

-- the law
pub lent_table : (h : Header) (k : Known) (ts : List Lent) → AreOpen h k ts → (v n : ℕ) → k.register Erstba ≡ None →
    grown h k (Reg Erstba v) n ts ≡ with_begun n ts (Range (table_bytes (event_shape h)) (base_address v) SegmentTable ∷ [])
unfolding in_turn with_leased resets
lent_table h k ts still v n unwritten = only_begun h k ts still (Reg Erstba v) n (Range (table_bytes (event_shape h)) (base_address v) SegmentTable ∷ []) (all_stay h k unwritten v) (ap in_turn (begun_is h k unwritten v))

use Rattle.driver_rows.proofs.Laws.{◌≡◌, ℕ, Bool, sym, ◌∙◌, ◌||◌, list_any, Erstba, Known, FollowsTrace, context_ranges, covers, entry_ranges, table_range, touches_event_segment, stops, any_range, goes_on}
use Rattle.driver_rows.proofs.context_rules.leases.is_in_range_lease.Goals.{Joined-touches_inputs, then-touches_events, else-touches_events, then-touches_table, else-touches_table, then-touches_inputs, else-touches_inputs}
use Rattle.driver_rows.proofs.context_rules.leases.is_in_range_lease.Goals as goal

before_last : (c : Joined-touches_inputs) (k : Known) (memory : ℕ → ℕ) → FollowsTrace c.args.header.now k c.args.t.now memory →
    c.if-touches_inputs.value ≡ (touches_event_segment c.args.header.now c.args.from c.args.len || list_any (covers c.args.header.now c.args.from c.args.len) (table_range c.args.header.now (k.register Erstba))
    || list_any (covers c.args.header.now c.args.from c.args.len) (context_ranges c.args.header.now k) || list_any (covers c.args.header.now c.args.from c.args.len) (entry_ranges k))
before_last c k memory f =
    let h = c.args.header.now in
    let events : Bool = touches_event_segment h c.args.from c.args.len in
    let has = list_any (covers h c.args.from c.args.len) in
    let one : c.if-touches_events.value ≡ (events || has (table_range h (k.register Erstba))) = elim c.if-touches_events.branch [
      | then-touches_events w ↦ w.value-is ∙ stops _ _ _ (c.touches_events.ensures h k memory f) w.if-touches_events.true
      | else-touches_events w ↦ w.value-is ∙ goes_on _ _ _ _ (c.touches_events.ensures h k memory f) w.if-touches_events.false (w.touches_table.ensures h k memory f)
    ] in
    let two : c.if-touches_table.value ≡ (events || has (table_range h (k.register Erstba)) || has (context_ranges h k)) = elim c.if-touches_table.branch [
      | then-touches_table w ↦ w.value-is ∙ stops _ _ _ one w.if-touches_table.true
      | else-touches_table w ↦ w.value-is ∙ goes_on _ _ _ _ one w.if-touches_table.false (w.touches_inputs.ensures h k memory f)
    ] in
    elim c.if-touches_inputs.branch [
      | then-touches_inputs w ↦ w.value-is ∙ stops _ _ _ two w.if-touches_inputs.true
      | else-touches_inputs w ↦ w.value-is ∙ goes_on _ _ _ _ two w.if-touches_inputs.false (w.touches_entries.ensures h k memory f)
    ]

pub returns-then-touches_entries : goal.returns-then-touches_entries
returns-then-touches_entries c = λ k memory f.
    stops _ _ _ (before_last (goal.at.returns-then-touches_entries c).Joined-touches_inputs k memory f) c.if-touches_entries.true ∙ sym (any_range c.args.header.now k c.args.from c.args.len)

pub returns-else-touches_entries : goal.returns-else-touches_entries
returns-else-touches_entries c = λ k memory f.
    goes_on _ _ _ _ (before_last (goal.at.returns-else-touches_entries c).Joined-touches_inputs k memory f) c.if-touches_entries.false (c.touches_devices.ensures c.args.header.now k memory f)
    ∙ sym (any_range c.args.header.now k c.args.from c.args.len)

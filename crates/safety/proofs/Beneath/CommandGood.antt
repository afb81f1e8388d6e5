-- Behind an event that is read before it, a command that a write gives names a slot and an endpoint that are there, and its contexts lie and
-- say what they may
use Rattle.safety.proofs.Words.{[], ◌≡◌, ◌∙◌, ℕ, not, false, Some, MayCome, or_parts, or_from, Block, input_add_flag, Command, named_slot, named_endpoint, named_context, Header, Write, Read, IsHeader, Known, command_given, learned, lenient, DriverKeeps, has_bad_content, has_bad_context, is_bad_added, is_bad_command, names_disabled_endpoint, names_disabled_slot, takes_bad_device, type_in, arith}
use Rattle.safety.proofs.Beneath.GivenBehind.{between, own_between, facts}
use Rattle.safety.proofs.Beneath.CommandContext.{context_behind}
use Rattle.safety.proofs.Beneath.DeviceBehind.{device_behind}

module _ (h : Header) (is : IsHeader h) (k : Known) (d : DriverKeeps h k) (a w : ℕ) (e : Block) (clean : MayCome h k (Write a w)) (may : lenient h k (Read e) ≡ [])
    (c : Command) (given : command_given h k a w ≡ Some c) where
  abbrev l : Known
  l = learned h k (Read e)

  abbrev x : Known
  x = between h is k d a w e clean may c given

  -- the command breaks BadCommand behind the event no more than before it
  pub good_behind : is_bad_command h l c ≡ false
  unfolding is_bad_command has_bad_content is_bad_added type_in names_disabled_slot names_disabled_endpoint has_bad_context
  good_behind =
      let there_content = or_parts _ (has_bad_content h x c) (own_between h is k d a w e clean may c given).good in
      let there_context = or_parts _ (has_bad_context h x (named_context c)) there_content.0 in
      let there_names = or_parts (names_disabled_slot x (named_slot c)) (names_disabled_endpoint x (named_endpoint c)) there_context.0 in
      let content = or_parts _ (has_bad_content h k c) (facts h is k d a w e clean may c given).own.good in
      or_from _ (has_bad_content h l c)
      (or_from _ (has_bad_context h l (named_context c))
      (or_from (names_disabled_slot l (named_slot c)) (names_disabled_endpoint l (named_endpoint c)) ((grind arith) ∙ there_names.0) ((grind arith) ∙ there_names.1))
      (grind (arith, context_behind)))
      (grind (arith, or_parts, not, input_add_flag, type_in, takes_bad_device, k.memory, or_from, device_behind, false))

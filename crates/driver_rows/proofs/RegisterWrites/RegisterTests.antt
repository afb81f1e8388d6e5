-- The rule of register writes, register by register
use Rattle.driver_rows.proofs.Words.{rules, refl, ap, ◌∙◌, Some, position, get_or, ◌*◌, ◌/◌, ◌%◌, ◌==◌, address_of, Ring, Shape, IsHeader, is_command_kind, is_bad_crcr, is_no_first_block, command_found, ring_here, among_at, ◌≡◌, ℕ, Bool, true, false, not, ◌||◌, Header, Register, Usbcmd, Crcr, Dcbaap, Config, Erstsz, Erstba, base_address, Known, is_bad_register, is_bad_table, is_written, is_unwritten, is_wrong_size, older, stricter, BadRegister, Reg, is_restored, is_used}

module _ (h : Header) (k : Known) (v : ℕ) where
  pub of_erstba : (b : Bool) → k.started ≡ false → b ≡ (is_written k Erstba || (is_unwritten k Erstsz || (is_wrong_size h k || is_bad_table h k (base_address v)))) → b ≡ is_bad_register h k Erstba v
  unfolding is_bad_register
  of_erstba b off is = search rules

  -- behind the start
  pub of_restored : (b : Bool) → k.started ≡ true → b ≡ is_restored k Erstba v → not b ≡ is_bad_register h k Erstba v
  unfolding is_bad_register
  of_restored b on is = search rules

  -- the command ring, as it is read of the header
  pub of_crcr : IsHeader h → (n : ℕ) (ring : Ring) → position (λ q. is_command_kind q.shape.kind) h.rings ≡ Some n → ring ≡ get_or h.rings n ring → (shape : Shape) → shape ≡ ring.shape → (b : Bool) →
      b ≡ (not (v / 64 * 64 == address_of shape 0) || not (v % 2 == 1) || v / 2 % 2 == 1 || v / 4 % 2 == 1 || is_used h k) → b ≡ is_bad_crcr h k v
  unfolding is_bad_crcr is_no_first_block
  of_crcr is n ring numbered read shape of_ring b told =
      let here = ring_here h (λ q. is_command_kind q.shape.kind) h.rings n ring numbered refl read in
      rw (command_found h is ring (among_at h.rings n ring here.0) here.1) (told ∙ ap (λ (s : Shape). not (v / 64 * 64 == address_of s 0) || not (v % 2 == 1) || v / 2 % 2 == 1 || v / 4 % 2 == 1 || is_used h k) of_ring)

  -- by the rule of the trace's version
  abbrev pub by_version : Register → Bool
  by_version r = stricter h k (Reg r v) BadRegister || is_bad_register h k r v

  -- older versions refuse nothing more of the other registers
  pub none_older : (r : Register) → (r ≡ Erstsz → ⊥) → by_version r ≡ is_bad_register h k r v
  unfolding stricter older
  none_older r e = search rules

  -- of the other registers
  pub of_other_registers : (r : Register) → (r ≡ Usbcmd → ⊥) → (r ≡ Crcr → ⊥) → (r ≡ Dcbaap → ⊥) → (r ≡ Config → ⊥) → (r ≡ Erstsz → ⊥) → (r ≡ Erstba → ⊥) → false ≡ is_bad_register h k r v
  unfolding is_bad_register
  of_other_registers r e f g j p q = search rules

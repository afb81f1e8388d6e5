-- What a record of the registers holds after one is written
use Rattle.ring_knowledge.proofs.Words.{arith, ◌≡◌, ◌<◌, ◌∷◌, ◌==◌, ◌∙◌, if◌then◌else◌, ℕ, List, [], false, true, ap, sym, subst, Option, Some, None, refl, length, set, get_or, get_or-set_other, get_or-set_same, eqb-true, length-set, cases_Bool, nat_tests, Header, Register, Usbcmd, ordinal, Not, with_register, Known, nothing, register_written, run_or_stop, runs_once, runs_again, valued, FollowsRegisters, FollowsRun, RegisterRecord, reset, gone, forgotten, command_id, Crcr, rules}

value_at : (values : List (Option ℕ)) (n m : ℕ) (x : Option ℕ) → n < length values → get_or (set values n x) m None ≡ (if m == n then x else get_or values m None)
value_at values n m x below = search (rules, length, get_or, set, eqb-true, get_or-set_same, get_or-set_other, nat_tests)

-- what is known of the registers' values behind a write
module _ (h : Header) (k : Known) (v : ℕ) where
  runs_registers : (run_or_stop h k v).register ≡ k.register
  unfolding run_or_stop runs_once runs_again
  runs_registers = grind (arith, cases_Bool)

registers_after : (h : Header) (k : Known) (r : Register) (v : ℕ) → (register_written h k r v).register ≡ with_register k.register r v
unfolding register_written valued
registers_after h k r v = grind (arith, runs_registers)

pub valued_run : (k : Known) (r : RegisterRecord) → FollowsRegisters k r → (q : Register) (v n : ℕ) → FollowsRun (valued k q v) (record r { values = set r.values n (Some v) })
unfolding valued
valued_run k r f q v n = record { started = f.run.started; stopped = f.run.stopped; halt = f.run.halt }

module _ (h : Header) (k : Known) (r : RegisterRecord) (f : FollowsRegisters k r) (q : Register) (v : ℕ) where
  pub follows_written : (n : ℕ) → n ≡ ordinal q → n < 11 → (s : RegisterRecord) → s.values ≡ set r.values n (Some v) → FollowsRun (register_written h k q v) s →
      FollowsRegisters (register_written h k q v) s
  follows_written n is below s values run =
      let after : (p : Register) → (register_written h k q v).register p ≡ get_or (set r.values n (Some v)) (ordinal p) None = λ p. (search (rules, get_or, set, registers_after, value_at)) in
      record {
        run = run;
        as_many = ap (λ l. length l) values ∙ length-set r.values n (Some v) ∙ f.as_many;
        values = λ p. after p ∙ ap (λ l. get_or l (ordinal p) None) (sym values);
      }

  -- of USBCMD
  pub usbcmd_run : q ≡ Usbcmd → (s : RegisterRecord) → FollowsRun (run_or_stop h (valued k Usbcmd v) v) s → FollowsRun (register_written h k q v) s
  unfolding register_written
  usbcmd_run usbcmd s run = subst (λ p. FollowsRun (register_written h k p v) s) (sym usbcmd) run

  -- of another one
  pub other_run : (n : ℕ) → (q ≡ Usbcmd → ⊥) → FollowsRun (register_written h k q v) (record r { values = set r.values n (Some v) })
  unfolding register_written valued
  other_run n usbcmd = grind (arith, f)

no_value : Option ℕ
no_value = None

pub follows_nothing : FollowsRegisters nothing (record {
  values = None ∷ None ∷ None ∷ None ∷ None ∷ None ∷ None ∷ None ∷ None ∷ None ∷ None ∷ [];
  started = false;
  stopped = false;
  halt = Not;
})
unfolding nothing no_value
follows_nothing = record { run = record { started = refl; stopped = refl; halt = refl }; as_many = refl; values = none_written }
  where
    none_written : (q : Register) → no_value ≡ get_or (None ∷ None ∷ None ∷ None ∷ None ∷ None ∷ None ∷ None ∷ None ∷ None ∷ None ∷ []) (ordinal q) None
    none_written q = grind arith

-- behind a reset nothing is known of the registers
pub follows_reset : (h : Header) (k : Known) (r : RegisterRecord) → FollowsRegisters nothing r → k.stopped ≡ false → FollowsRegisters (reset h k) r
unfolding reset nothing
follows_reset h k r f on =
    record {
      run = record { started = f.run.started; stopped = on ∙ f.run.stopped; halt = f.run.halt };
      as_many = f.as_many;
      values = f.values;
    }

-- CRCR is forgotten with the command ring
module _ (h : Header) (k : Known) (id : ℕ) (r : RegisterRecord) (f : FollowsRegisters k r) where
  without_pointer : (n : ℕ) → n ≡ ordinal Crcr → (id == command_id h) ≡ true → (q : Register) → (gone h k id).register q ≡ get_or (set r.values n None) (ordinal q) None
  unfolding gone forgotten
  without_pointer n is here q =
      let set_is = value_at r.values n (ordinal q) None (omega (arith, is, f.as_many)) in
      grind (arith, nat_tests)

  pub follows_gone : (n : ℕ) → n ≡ ordinal Crcr → (id == command_id h) ≡ true → FollowsRegisters (gone h k id) (record r { values = set r.values n None })
  unfolding gone forgotten
  follows_gone n is here =
      record {
        run = record { started = f.run.started; stopped = f.run.stopped; halt = f.run.halt };
        as_many = length-set r.values n None ∙ f.as_many;
        values = without_pointer n is here;
      }

  pub follows_other_gone : (id == command_id h) ≡ false → FollowsRegisters (gone h k id) r
  unfolding gone forgotten
  follows_other_gone other =
      record { run = record { started = f.run.started; stopped = f.run.stopped; halt = f.run.halt }; as_many = f.as_many; values = λ q. (grind (arith, f.values)) }

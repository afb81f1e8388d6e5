-- Memory with the steps in which its words were last changed and written, as the world has it
use Rattle.std.specs.Prelude.{ℕ, ◌+◌, ◌==◌, if◌then◌else◌}
use Rattle.guest_memory.specs.Memory.{put}
use Rattle.guest_memory.specs.Page.{word_in}
use Rattle.trb.specs.declared.block.Block.{Block}
use Rattle.trb.specs.Block.{word}
use Rattle.world_state.specs.World.{World}
use Rattle.controller_model.specs.declared.stamps.Stamps.{Stamps}

abbrev pub changed_at : Stamps → ℕ → ℕ
changed_at s a = word_in s.changed a

abbrev pub written_at : Stamps → ℕ → ℕ
written_at s a = word_in s.written a

pub record Held : Type 0 where
  pub memory : ℕ → ℕ
  pub changed : ℕ → ℕ
  pub written : ℕ → ℕ

abbrev pub held : (ℕ → ℕ) → Stamps → Held
held words s = record { memory = words; changed = changed_at s; written = written_at s }

-- what the world has of its memory
abbrev pub held_by : World → Held
held_by w = record { memory = w.memory; changed = w.changed; written = w.written }

-- a word is written in a step
abbrev pub held_stored : Held → ℕ → ℕ → ℕ → Held
held_stored h a x step = record {
  memory = put h.memory a x;
  changed = if h.memory a == x then h.changed else put h.changed a step;
  written = put h.written a step;
}

abbrev pub held_block : Held → ℕ → Block → ℕ → Held
held_block h a b step =
    held_stored (held_stored (held_stored (held_stored h a (word b 0) step) (a + 4) (word b 1) step) (a + 8) (word b 2) step) (a + 12) (word b 3) step

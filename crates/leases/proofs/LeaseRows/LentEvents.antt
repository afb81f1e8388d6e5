-- What the leases of a completion rest on, behind a clean history
use Rattle.leases.proofs.LowerLaws.{◌≡◌, ℕ, List, kind, CommandCompletion, Read, Header, IsHeader, TraceRecord, EntriesFit, FloorsMove, Known, Lent, IsNextRow, floors_move}
use Rattle.trb.specs.declared.block.Block.{Block}

module _ (h : Header) (headed : IsHeader h) (k : Known) (ts : List Lent) (b : Block) (t : TraceRecord) (m : ℕ → ℕ) (clean : IsNextRow h k ts (Read b) t m) where
  pub entries : EntriesFit k
  entries = clean.tables.entries

  pub floors : kind b ≡ CommandCompletion → FloorsMove h k b
  floors is = floors_move h headed k clean.keeps b clean.clean is

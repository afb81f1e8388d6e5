-- The unfinished commands behind an event
use Rattle.trace_record.proofs.UpperLaws.{◌≡◌, Block, Header, command_id, Known, transfer_read, NoEndpointHas, transfer_apart}

-- the command ring stays apart where no endpoint has it
pub transfer_stays : (h : Header) (k : Known) (b : Block) → NoEndpointHas (command_id h) k → (transfer_read h k b).ring (command_id h) ≡ k.ring (command_id h)
transfer_stays h k b free = transfer_apart h k (command_id h) b free

use Rattle.trace_record.proofs.Laws.{changed_by, named_by, follows_disabled}
use Rattle.trace_record.proofs.device_record.kept.DeviceRecord.disable.Goals as goal

pub returns : goal.returns
unfolding changed_by
returns c = λ h command k f. follows_disabled h k c.args.slot (named_by c.args.named) c.args.self.now c.disable_each.new.self f c.disable_each.ensures

use Rattle.trace_reader.proofs.Laws.{◌≡◌, ◌∙◌, rules, ap, text_of, trace_of, printed_trace, IsTrace, whole_text, printed_reads}
use Rattle.trace_reader.proofs.print.print_trace.Goals as goal

pub returns : goal.returns
returns c =
    let trace = c.args.trace.now in
    let text = text_of trace in
    let printed : c.push_rows.new.out.items ≡ printed_trace text = rw (whole_text text) (search rules) in
    record {
      printed = printed;
      reread = λ keeps few.
          let valid : IsTrace keeps text =
          record { headed = trace.headed; unmoved = trace.unmoved; rows = trace.fitting; begins = trace.begins; new_ids = trace.new_ids; first = trace.placed; within = few } in
          ap (trace_of keeps) printed ∙ printed_reads keeps text valid;
    }

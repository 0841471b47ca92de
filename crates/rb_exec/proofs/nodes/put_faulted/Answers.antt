-- No entries, and the fault.
use Rattle.rb_meaning_bytes.specs.formats.Fields.{number}
use Rattle.rb_wire_fields.proofs.Kept.{keeps_after}
use Rattle.rb_exec.proofs.Entries.{faulted_bytes}
use Rattle.rb_exec.proofs.Patched.{on_err}
use Rattle.rb_exec.proofs.nodes.put_faulted.Goals as goal

pub returns-in_err-put_fault-clause-err : goal.returns-in_err-put_fault-clause-err
returns-in_err-put_fault-clause-err c = on_err _ (keeps_after c.args.bytes.now.items c.put_number.new.into.items c.put_fault.new.bytes.items (number 0) c.in_ok-put_number.ensures.ok c.in_err-put_fault.ensures.err)

pub returns-clause-ok : goal.returns-clause-ok
returns-clause-ok c =
    faulted_bytes c.args.version (record { step = c.args.step; at = c.args.at; fault = c.args.fault }) c.args.bytes.now.items c.put_number.new.into.items c.put_fault.new.bytes.items c.in_ok-put_number.ensures.ok c.in_ok-put_fault.ensures.ok

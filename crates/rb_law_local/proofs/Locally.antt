-- All local code meets.
use Rattle.rb_meaning_types.specs.Declared.{of_program}
use Rattle.rb_meaning_types.specs.Notes.{type_at}
use Rattle.std.proofs.Common.{refl, ℕ}
use Rattle.rb_law_types.proofs.InSurroundings.{batches_keep_handled}
use Rattle.rb_law_local.specs.Local.{HoldsTable, IsLocalAt, IsPlainAt, LocalCodeDoesTheSame}
use Rattle.rb_law_local.proofs.Near.{StandPlain}
use Rattle.rb_law_local.proofs.Meeting.{meets_more}
use Rattle.rb_law_local.proofs.Values.{value_meets, values_meet}
use Rattle.rb_law_local.proofs.Statements.{stmt_meets, stmts_meet}

pub local_code_does_the_same : LocalCodeDoesTheSame
local_code_does_the_same p service around at near =
    let keeps = batches_keep_handled (HoldsTable service) (of_program p) around.declared (type_at p) _ around.handler in
    let plain : StandPlain p (IsPlainAt p) = record { classes = around.placed; uncarried = λ q here. here.1 } in
    let local_at : (q : ℕ) → IsPlainAt p q → IsLocalAt p q = λ q here. here.0 in
    record {
      values = λ e k n l t fits w.
          meets_more local_at (value_meets p service at.ground at.refs at.vars at.gas (HoldsTable service) (IsPlainAt p) at.place.this at.place.remote keeps around.declared near at.scope plain at.place.scope e k n l l.names
          (record { typed = t.typed.0; formed = t.typed.1; noted = t.noted.0; admitted = t.noted.1 }) t.parted t.placed fits refl w);
      lists = λ es ks n l t fits w.
          meets_more local_at (values_meet p service at.ground at.refs at.vars at.gas (HoldsTable service) (IsPlainAt p) at.place.this at.place.remote keeps around.declared near at.scope plain at.place.scope es ks n l l.names
          (record { typed = t.typed.0; formed = t.typed.1; noted = t.noted.0; admitted = t.noted.1 }) t.parted t.placed fits refl w);
      statements = λ s after n l t fits w.
          meets_more local_at (stmt_meets p service at.ground at.refs at.vars at.gas (HoldsTable service) (IsPlainAt p) at.place.this at.place.remote keeps around.declared near at.scope plain s at.place.scope after n l t.typed t.noted t.parted t.placed fits w);
      sequences = λ ss after n l t none fits.
          meets_more local_at (stmts_meet p service at.ground at.refs at.vars at.gas (HoldsTable service) (IsPlainAt p) at.place.this at.place.remote keeps around.declared near at.scope plain ss at.place.scope after n l none t.typed t.noted t.parted t.placed fits);
    }

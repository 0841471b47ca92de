-- The code of what whoever keeps requests is seen as.
use Rattle.std.specs.Prelude.{ℕ, Bool}
use Rattle.std.specs.Coded.{Coded, code_by, coded×, coded_ℕ, coded_bool}
use mathlib.Core.Path.{refl}
use Rattle.rb_exec.specs.Hosted.{Hosted}
use Rattle.rb_exec.specs.Codes.{host_code}
use Rattle.rb_journal.specs.Journals.{SeenJournal}
use Rattle.rb_journal.specs.Keeping.{SeenKept}

abbrev pub kept_code : {D : Type 0} → Coded D → Coded (SeenKept D)
kept_code {D} d =
    code_by (D × (ℕ × (Bool × Hosted))) (coded× d (coded× coded_ℕ (coded× coded_bool host_code)))
    (λ k. (k.journal.disk, (k.journal.gate, (k.journal.is_closed, k.host))))
    (λ q. let j : SeenJournal D = record { disk = q.0; gate = q.1.0; is_closed = q.1.1.0 } in record { journal = j; host = q.1.1.1 }) (λ _. refl)

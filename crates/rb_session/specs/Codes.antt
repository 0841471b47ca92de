-- The codes of what a request that was read and what a link in memory are seen as.
use Rattle.std.specs.Prelude.{ℕ, Bool, List}
use Rattle.std.specs.Coded.{Coded, code_by, coded×, coded_list, coded_ℕ, coded_bool}
use mathlib.Core.Path.{refl}
use Rattle.rb_trees.specs.contracts.scripts.Script as script_code
use Rattle.rb_trees.specs.contracts.services.Change as change_code
use Rattle.rb_trees.specs.contracts.services.Object as object_code
use Rattle.rb_trees.specs.contracts.values.Value as value_code
use Rattle.rb_trees.specs.contracts.versions.Version as version_code
use Rattle.rb_trees.specs.declared.scripts.Script.{Script}
use Rattle.rb_trees.specs.declared.values.Value.{Value}
use Rattle.rb_trees.specs.declared.versions.Version.{Version}
use Rattle.rb_trees.specs.declared.services.Change.{Change}
use Rattle.rb_trees.specs.declared.services.Object.{Object}
use Rattle.rb_meaning.specs.Links.{Pair}
use Rattle.rb_exec.specs.Hosted.{Hosted}
use Rattle.rb_exec.specs.Codes.{host_code}
use Rattle.rb_session.specs.MemoryLinks.{LinkInMemory}
use Rattle.rb_session.specs.FailingLinks.{FailingInMemory}
use Rattle.rb_session.specs.FrameLinks.{LinkOverEnds}
use Rattle.rb_session.specs.MeddledLinks.{MeddledInMemory}
use Rattle.rb_session.specs.Readings.{Request}

abbrev pub request_code : Coded Request
request_code =
    code_by (Version × (Script × List Value)) (coded× version_code.the_row.coded (coded× script_code.the_row.coded (coded_list value_code.the_row.coded)))
    (λ r. (r.version, (r.script, r.inputs))) (λ q. record { version = q.0; script = q.1.0; inputs = q.1.1 }) (λ _. refl)

abbrev pub pair_code : Coded Pair
pair_code =
    code_by (List ℕ × (ℕ × List ℕ)) (coded× (coded_list coded_ℕ) (coded× coded_ℕ (coded_list coded_ℕ)))
    (λ p. (p.request, (p.kind, p.reply))) (λ q. record { request = q.0; kind = q.1.0; reply = q.1.1 }) (λ _. refl)

-- what a link keeps beside its host and its first table
abbrev pub Rest : Type 0
Rest = List Pair × (ℕ × Bool)

abbrev pub link_code : Coded LinkInMemory
link_code =
    code_by (Hosted × (List Object × Rest))
    (coded× host_code (coded× (coded_list object_code.the_row.coded) (coded× (coded_list pair_code) (coded× coded_ℕ coded_bool))))
    (λ l. (l.host, (l.first, (l.pairs, (l.made, l.spent)))))
    (λ q. record { host = q.0; first = q.1.0; pairs = q.1.1.0; made = q.1.1.1.0; spent = q.1.1.1.1 }) (λ _. refl)

abbrev pub failing_code : Coded FailingInMemory
failing_code =
    code_by (LinkInMemory × (ℕ × (List ℕ × ℕ))) (coded× link_code (coded× coded_ℕ (coded× (coded_list coded_ℕ) coded_ℕ)))
    (λ l. (l.link, (l.made, (l.failing, l.faults)))) (λ q. record { link = q.0; made = q.1.0; failing = q.1.1.0; faults = q.1.1.1 }) (λ _. refl)

abbrev pub coded_tables : Coded (List (List Object))
coded_tables = coded_list (coded_list object_code.the_row.coded)

-- what a link keeps that others meddle with, beside its host
abbrev pub Meddled : Type 0
Meddled = List (List Change) × (List Pair × (List (List Object) × (List (List Object) × (ℕ × Bool))))

abbrev pub meddled_code : Coded MeddledInMemory
meddled_code =
    code_by (Hosted × Meddled)
    (coded× host_code (coded× (coded_list (coded_list change_code.the_row.coded)) (coded× (coded_list pair_code) (coded× coded_tables (coded× coded_tables (coded× coded_ℕ coded_bool))))))
    (λ l. (l.host, (l.others, (l.pairs, (l.found, (l.left, (l.made, l.spent)))))))
    (λ q. record { host = q.0; others = q.1.0; pairs = q.1.1.0; found = q.1.1.1.0; left = q.1.1.1.1.0; made = q.1.1.1.1.1.0; spent = q.1.1.1.1.1.1 }) (λ _. refl)

abbrev pub ends_code : {S K : Type 0} → Coded S → Coded K → Coded (LinkOverEnds S K)
ends_code {S} {K} s k =
    code_by (S × (K × List Pair)) (coded× s (coded× k (coded_list pair_code)))
    (λ l. (l.source, (l.sink, l.pairs))) (λ q. record { source = q.0; sink = q.1.0; pairs = q.1.1 }) (λ _. refl)

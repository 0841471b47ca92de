-- The value of a remote expression, as the World of its calls leads to it.
use Rattle.std.proofs.Common.{◌≡◌, refl, sym, ap, ◌∙◌, subst, List}
use Rattle.std.specs.Prelude.{Result, Ok, Err}
use Rattle.rb_trees.specs.declared.values.Value.{Value}
use Rattle.rb_trees.specs.declared.outcomes.Raised.{Raised}
use Rattle.rb_trees.specs.declared.code.Expr as expr
use Rattle.rb_trees.specs.declared.want.Memory.{Memory}
use Rattle.rb_trees.specs.declared.declarations.Class as class
use Rattle.rb_trees.specs.mirror.Code.{mirror_expr}
use Rattle.rb_meaning_code.specs.Bodies.{bodies_of}
use Rattle.rb_meaning_code.specs.Dialogue.{Outcome, Gave, Faulted, Surroundings}
use Rattle.rb_meaning_code.specs.Expressions.{evaluates}
use Rattle.rb_meaning_code.specs.Remote.{Server, Got, Stopped}
use Rattle.rb_meaning_code.specs.State.{Names, Local}
use Rattle.rb_meaning.specs.RemotePart.{in_remote_part, reply_of, with_names}
use Rattle.rb_engine.specs.Code.{value_run}
use Rattle.rb_engine.specs.Ends.{flattened}
use Rattle.rb_engine.specs.Meets.{Led}
use Rattle.rb_engine.specs.declared.misses.Miss.{Miss}
use Rattle.rb_engine.specs.declared.misses.Miss.TheVariants as miss
use Rattle.rb_engine.specs.declared.world.Halt.{Halt}
use Rattle.rb_plain.specs.Remote.{Ended, Handled, remote_answers, remote_performs, value_meant}
use Rattle.rb_plain.specs.Staged.{Staged, program_of, service_of}
use Rattle.rb_plain.specs.Worlds.{Told, View}
use Rattle.rb_plain.specs.declared.remote_world.RemoteWorld.{RemoteWorld}
use Rattle.rb_plain.proofs.Told.{AnswersAs, told}

-- the World of remote calls as surroundings
abbrev pub calls : Surroundings RemoteWorld Memory
calls = record { answers = remote_answers; performs = remote_performs }

-- the World on a stage, seen as its server; it never cuts a run off
abbrev server_view : Staged → View RemoteWorld Server
server_view st = record { sees = λ w s. (w.stage ≡ st) × (w.server ≡ s); cut = λ w s. ⊥ }

by_handled : {A : Type 0} (st : Staged) (w w' : RemoteWorld) (s : Server) (r : Result A Memory) (meant : Staged → Server → A × Server) → w.stage ≡ st → w.server ≡ s
    → Handled (meant w.stage w.server) w r w' → Told (server_view st) r w' (meant st s)
by_handled st w w' s (Ok a) meant e f h = subst (λ x. Told {X = Memory} (server_view st) (Ok a) w' (meant x s)) e
    (subst (λ x. Told {X = Memory} (server_view st) (Ok a) w' (meant w.stage x)) f (h.0, (h.2 ∙ e, h.1)))
by_handled st w w' s (Err x) meant e f h = h

as_server : (st : Staged) → AnswersAs (server_view st) calls (in_remote_part (program_of st) (service_of st))
as_server st = record {
  questions = λ w w' s q r sees h. by_handled st w w' s r (λ x y. (in_remote_part (program_of x) (service_of x)).answer y q) sees.0 sees.1 h;
  batches = λ w w' s at l r sees h. by_handled st w w' s r (λ x y. (in_remote_part (program_of x) (service_of x)).batch y at l) sees.0 sees.1 h;
  later = λ A w s d c. c;
}

pub reply_gave : (H : Outcome Value × Server) (v : Value) (l : Local) (s : Server) → Gave v l ≡ H.0 → s ≡ H.1 → reply_of H ≡ Got v s
reply_gave (o, t) v l s e f = subst (λ x. reply_of (x, t) ≡ Got v s) e (ap (Got v) (sym f))

pub reply_faulted : (H : Outcome Value × Server) (r : Raised) (l : Local) (s : Server) → Faulted r l ≡ H.0 → s ≡ H.1 → reply_of H ≡ Stopped r.at r.fault s
reply_faulted (o, t) r l s e f = subst (λ x. reply_of (x, t) ≡ Stopped r.at r.fault s) e (ap (Stopped r.at r.fault) (sym f))

-- how the evaluation ends, as the code says it
abbrev pub miss_of : Result (Result Value Raised) (Halt Memory) → Result Value Miss
miss_of (Ok (Ok v)) = Ok v
miss_of (Ok (Err r)) = Err (miss.Fault r.at r.fault)
miss_of (Err h) = Err miss.Memory

by_end : (st : Staged) (e : expr.Expr) (names : Names) (w w1 : RemoteWorld) (l1 : Local) (q : Result (Result Value Raised) (Halt Memory)) → w.stage ≡ st
    → Led calls (evaluates (bodies_of (program_of st).classes 0) (mirror_expr e) (with_names names)) w l1 (flattened q) w1 → Ended (value_meant st e names w.server) (miss_of q) w w1
by_end st e names w w1 l1 (Ok (Ok v)) same f =
    let t = told (server_view st) calls (in_remote_part (program_of st) (service_of st)) (as_server st) _ w w1 w.server (Ok (Gave v l1)) (same, refl) f in
    record { means = reply_gave _ v l1 w1.server t.0 t.1.1; stage_so = t.1.0 ∙ sym same }
by_end st e names w w1 l1 (Ok (Err r)) same f =
    let t = told (server_view st) calls (in_remote_part (program_of st) (service_of st)) (as_server st) _ w w1 w.server (Ok (Faulted r l1)) (same, refl) f in
    record { means = reply_faulted _ r l1 w1.server t.0 t.1.1; stage_so = t.1.0 ∙ sym same }
by_end st e names w w1 l1 (Err h) same f = record { means = tt; stage_so = tt }

-- what the engine tells of the evaluation
pub evaluated : (e : expr.Expr) (names : Names) (w w1 : RemoteWorld) (l l1 : Local) (classes : List class.Class) (q : Result (Result Value Raised) (Halt Memory)) (r : Result Value Miss)
    → classes ≡ w.stage.program.classes → l ≡ with_names names → miss_of q ≡ r → Led calls (value_run classes e 0 l) w l1 (flattened q) w1 → Ended (value_meant w.stage e names w.server) r w w1
evaluated e names w w1 l l1 classes q r own start is f =
    subst (λ x. Ended (value_meant w.stage e names w.server) x w w1) is
    (by_end w.stage e names w w1 l1 q refl
    (subst (λ x. Led calls (value_run x e 0 (with_names names)) w l1 (flattened q) w1) own (subst (λ x. Led calls (value_run classes e 0 x) w l1 (flattened q) w1) start f)))

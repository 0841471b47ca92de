-- Blocks of local code meet: at their ends the names of before are left on both sides.
use Rattle.std.proofs.Common.{◌≡◌, refl, sym, ap, ◌∙◌, subst, ℕ, List, [], ◌∷◌, ◌++◌, length, append_assoc, Bool as Truth}
use Rattle.rb_trees.specs.mirror.Declarations.{Program}
use Rattle.rb_trees.specs.mirror.Services.{Service}
use Rattle.rb_meaning_types.specs.Kinds.{Kind}
use Rattle.rb_meaning_types.specs.Declared.{Context}
use Rattle.rb_meaning_types.specs.Scopes.{Scope, with_variable}
use Rattle.rb_meaning_types.specs.Fits.{classes_of, frame_scope, NamesFit}
use Rattle.rb_meaning_code.specs.State.{Local, closed}
use Rattle.rb_meaning_code.specs.Dialogue.{Outcome, Gave, Faulted, Run, handle, seq}
use Rattle.rb_meaning_code.specs.Statements.{closes}
use Rattle.rb_meaning_code.specs.ScriptRun.{Ground, Vars}
use Rattle.rb_meaning.specs.State.{Outside}
use Rattle.rb_meaning.specs.Unsplit.{in_batch}
use Rattle.rb_meaning_split.specs.Refs.{Refs}
use Rattle.rb_law_types.specs.Ends.{LocalFits, LocalHolds, Ends, Nothing}
use Rattle.rb_law_types.proofs.Values.{names_less}
use Rattle.rb_law_types.proofs.Steps.{Within, holds_less, left_taken, Closes}
use Rattle.rb_law_local.specs.Shown.{at_client, Fronts, LeftSeen}
use Rattle.rb_law_local.specs.Meets.{Meets}
use Rattle.rb_law_local.proofs.Names.{begins_fit, Extends, Framed, fronts_same, fronts_less, fronts_closed}
use Rattle.rb_law_local.proofs.Meeting.{handle_seq, Ended, seq_meets, gives_meet, falls_meet}

-- how a block that ended by a fault leaves the client
abbrev pub FellSeen : Context → Scope → Local → Local → Type 0
FellSeen x scope l cl = cl ≡ at_client x scope l

pub extends_on : (a b c : Scope) → Extends a b → Extends b c → Extends a c
extends_on a b c h k = (h.0 ++ k.0, sym (append_assoc a h.0 k.0) ∙ ap (λ q. q ++ k.0) h.1 ∙ k.1)

pub extends_with : (scope : Scope) (name : List ℕ) (k : Kind) (fixed : Truth) → Extends scope (with_variable scope name k fixed)
extends_with scope name k fixed = (record { name = name; kind = k; fixed = fixed } ∷ [], refl)

pub within_extends : (x : Context) (scope after : Scope) → Extends scope after → Within x scope after
within_extends x scope after h cs ns fit = names_less x.declared.interfaces cs x.this scope h.0 ns (subst (λ q. NamesFit x.declared.interfaces cs (frame_scope x.this q) ns) (sym h.1) fit)

pub holds_framed : (x : Context) (scope : Scope) (l : Local) → LocalHolds x scope l → Framed x scope l.names
holds_framed x scope l h = begins_fit x.declared.interfaces (classes_of l.heap) (frame_scope x.this scope) l.names h.names_fit

module _ (p : Program) (service : Service) (g : Ground) (refs : Refs) (vars : Vars) (gas : ℕ) (Holds : Outside → Type 0) (Here : ℕ → Type 0) (x : Context) where
  -- code of a block that begins in one scope and leads to another, all behind the names of the scope before
  module _ (ws inner last : Scope) (into : Extends ws inner) (on : Extends inner last) {cs : List (List ℕ)} (l : Local) (state : LocalFits x ws l) {d : Run (Unit {0})} (ended : Ended p service g refs vars gas Holds Here (Ends x inner last Nothing cs) d) where
    pub close_ended : Ended p service g refs vars gas Holds Here (Closes x ws cs) (seq d (closes (length l.names)))
    close_ended = record {
      handled = λ s holds.
          let e = ended.handled s holds in
          subst (λ q. Closes x ws cs q.0 × Holds q.1) (sym (handle_seq (in_batch p service) d (closes (length l.names)) s)) (by (handle (in_batch p service) d s) e.0 e.1);
    }
      where
        by : (w : Outcome (Unit {0}) × Outside) → Ends x inner last Nothing cs w.0 → Holds w.1 → Closes x ws cs (handle (in_batch p service) (closes (length l.names) w.0) w.1).0 × Holds (handle (in_batch p service) (closes (length l.names) w.0) w.1).1
        by (Gave u l1, s1) e h = (left_taken x ws cs (length l.names) l1 state.count (holds_less x ws last l1 (within_extends x ws last (extends_on ws inner last into on)) e.state.holds) e.grown, h)
        by (Faulted r l1, s1) e h = ((e.fault, left_taken x ws cs (length l.names) l1 state.count (holds_less x ws inner l1 (within_extends x ws inner into) e.state) e.grown), h)

    pub close_meets : {c : Run (Unit {0})} {n : ℕ} → Meets p service g refs vars gas Holds Here (LeftSeen x last) (Fronts x inner) [] n d c
        → Meets p service g refs vars gas Holds Here (LeftSeen x ws) (FellSeen x ws) [] n (seq d (closes (length l.names))) (seq c (closes (length (at_client x ws l).names)))
    close_meets m =
        seq_meets p service g refs vars gas Holds Here (closes (length l.names)) (closes (length (at_client x ws l).names)) m ended
        (λ u l1 cl e q.
        let h1 = holds_less x ws last l1 (within_extends x ws last (extends_on ws inner last into on)) e.state.holds in
        let fronts = fronts_less x ws last l1 (at_client x last l1) (extends_on ws inner last into on) (holds_framed x ws l1 h1) (fronts_same x last l1) in
        gives_meet p service g refs vars gas Holds Here (closed (length l.names) l1) (closed (length (at_client x ws l).names) cl) u
        (ap (closed (length (at_client x ws l).names)) q ∙ fronts_closed x ws l l1 (at_client x last l1) (holds_framed x ws l state.holds) state.count (holds_framed x ws l1 h1) fronts))
        (λ r l1 cl e near here fronts.
        let h1 = holds_less x ws inner l1 (within_extends x ws inner into) e.state in
        falls_meet p service g refs vars gas Holds Here (closed (length l.names) l1) (closed (length (at_client x ws l).names) cl) [] r near here
        (fronts_closed x ws l l1 cl (holds_framed x ws l state.holds) state.count (holds_framed x ws l1 h1) (fronts_less x ws inner l1 cl into (holds_framed x ws l1 h1) fronts)))

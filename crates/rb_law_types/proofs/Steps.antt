-- How runs that keep types follow one another.
use Rattle.std.proofs.Common.{◌≡◌, subst, ℕ, List, length, take, Result, Ok, Err}
use Rattle.rb_trees.specs.declared.values.Fault.{Fault}
use Rattle.rb_trees.specs.declared.outcomes.Raised.{Raised}
use Rattle.rb_meaning_types.specs.Scopes.{Scope}
use Rattle.rb_meaning_types.specs.Declared.{Declarations, Context}
use Rattle.rb_meaning_types.specs.Fits.{classes_of, Frame, frame_scope, NamesFit}
use Rattle.rb_meaning_code.specs.State.{Local, closed}
use Rattle.rb_meaning_code.specs.Faults.{raised, raises}
use Rattle.rb_meaning_code.specs.Dialogue.{Outcome, Gave, Faulted, Dialogue, Done, Ask, AskBatch, Run, seq, on, next, gives, end}
use Rattle.rb_meaning_code.specs.Statements.{Effect, closes, block}
use Rattle.rb_law_types.specs.Kept.{FaultFits, Fair}
use Rattle.rb_law_types.proofs.Faults.{rule_fits}
use Rattle.rb_law_types.specs.Ends.{Grown, LocalFits, LocalHolds, Ends, Nothing}
use Rattle.rb_law_types.specs.Asked.{Side, Keeps}
use Rattle.rb_law_types.proofs.Values.{grown_same, grown_on, names_take, names_count}

pub keeps_seq : {A B : Type 0} (d : Declarations) (side : Side) (P : A → Type 0) (Q : B → Type 0) (run : Dialogue A) (k : A → Dialogue B) → Keeps d side P run → ((a : A) → P a → Keeps d side Q (k a)) → Keeps d side Q (seq run k)
keeps_seq d side P Q (Done a) k h more = more a h
keeps_seq d side P Q (Ask q go) k h more = (h.0, λ a fits. keeps_seq d side P Q (go a) k (h.1 a fits) more)
keeps_seq d side P Q (AskBatch at l go) k h more = (h.0, h.1, λ o kept. keeps_seq d side P Q (go o) k (h.2 o kept) more)

pub keeps_more : {A : Type 0} (d : Declarations) (side : Side) (P Q : A → Type 0) (run : Dialogue A) → ((a : A) → P a → Q a) → Keeps d side P run → Keeps d side Q run
keeps_more d side P Q (Done a) f h = f a h
keeps_more d side P Q (Ask q go) f h = (h.0, λ a fits. keeps_more d side P Q (go a) f (h.1 a fits))
keeps_more d side P Q (AskBatch at l go) f h = (h.0, h.1, λ o kept. keeps_more d side P Q (go o) f (h.2 o kept))

-- Where the names of one scope stand first, those of the other do.
abbrev pub Within : Context → Scope → Scope → Type 0
Within x scope after = (classes : List (List ℕ)) (names : Frame) → NamesFit x.declared.interfaces classes (frame_scope x.this after) names → NamesFit x.declared.interfaces classes (frame_scope x.this scope) names

pub within_same : (x : Context) (scope : Scope) → Within x scope scope
within_same x scope classes names h = h

pub holds_less : (x : Context) (scope after : Scope) (l : Local) → Within x scope after → LocalHolds x after l → LocalHolds x scope l
holds_less x scope after l sub h = record { names_fit = sub (classes_of l.heap) l.names h.names_fit; heap_fits = h.heap_fits }

-- a run from objects of these classes, that keeps types
pub record Runs {A : Type 0} (side : Side) (x : Context) (scope after : Scope) (P : List (List ℕ) → A → Type 0) (before : List (List ℕ)) (run : Run A) : Type 0 where
  pub keeps : Keeps x.declared side (Ends x scope after P before) run

-- a run and what follows it
pub goes : {A B : Type 0} {side : Side} {x : Context} {scope after last : Scope} {P : List (List ℕ) → A → Type 0} {Q : List (List ℕ) → B → Type 0} {cs : List (List ℕ)} {run : Run A} (k : A → Local → Run B) → Within x scope after
    → Runs side x scope after P cs run
    → ((a : A) (l1 : Local) → P (classes_of l1.heap) a → LocalFits x after l1 → Grown cs (classes_of l1.heap) → Runs side x after last Q (classes_of l1.heap) (k a l1)) → Runs side x scope last Q cs (next run k)
goes {side = side} {x = x} {scope = scope} {after = after} {last = last} {P = P} {Q = Q} {cs = cs} {run = run} k sub h more =
    record { keeps = keeps_seq x.declared side (Ends x scope after P cs) (Ends x scope last Q cs) run (on k) h.keeps then_on }
  where
    widened : (cs1 : List (List ℕ)) → Grown cs cs1 → (o : Outcome _) → Ends x after last Q cs1 o → Ends x scope last Q cs o
    widened cs1 g (Gave b l2) e = record { gives = e.gives; state = e.state; grown = grown_on cs cs1 _ g e.grown }
    widened cs1 g (Faulted r l2) e = record { fault = e.fault; state = holds_less x scope after l2 sub e.state; grown = grown_on cs cs1 _ g e.grown }

    then_on : (o : Outcome _) → Ends x scope after P cs o → Keeps x.declared side (Ends x scope last Q cs) (on k o)
    then_on (Gave a l1) e = keeps_more x.declared side (Ends x after last Q (classes_of l1.heap)) (Ends x scope last Q cs) (k a l1) (widened (classes_of l1.heap) e.grown) (more a l1 e.gives e.state e.grown).keeps
    then_on (Faulted r l1) e = e

-- a run of the same scope and what follows it
pub then_goes : {A B : Type 0} {side : Side} {x : Context} {scope last : Scope} {P : List (List ℕ) → A → Type 0} {Q : List (List ℕ) → B → Type 0} {cs : List (List ℕ)} {run : Run A} (k : A → Local → Run B)
    → Runs side x scope scope P cs run
    → ((a : A) (l1 : Local) → P (classes_of l1.heap) a → LocalFits x scope l1 → Grown cs (classes_of l1.heap) → Runs side x scope last Q (classes_of l1.heap) (k a l1)) → Runs side x scope last Q cs (next run k)
then_goes {side = side} {x = x} {scope = scope} k h more = goes k (within_same x scope) h more

-- a run that ends where it stands
pub ends : {A : Type 0} {side : Side} {x : Context} {scope after : Scope} {P : List (List ℕ) → A → Type 0} {cs : List (List ℕ)} {l1 : Local} (a : A) → P (classes_of l1.heap) a → LocalFits x after l1 → Grown cs (classes_of l1.heap) → Runs side x scope after P cs (gives a l1)
ends a given state grown = record { keeps = record { gives = given; state = state; grown = grown } }

pub falls : {A : Type 0} {side : Side} {x : Context} {scope after : Scope} {P : List (List ℕ) → A → Type 0} {cs : List (List ℕ)} {l1 : Local} (r : Raised) → FaultFits x.declared r → LocalFits x scope l1 → Grown cs (classes_of l1.heap) → Runs {A = A} side x scope after P cs (Done (Faulted r l1))
falls r fault state grown = record { keeps = record { fault = fault; state = state.holds; grown = grown } }

-- a check of a rule and what follows it, in the same state
pub helped : {A B : Type 0} {side : Side} {x : Context} {scope after : Scope} {Q : List (List ℕ) → B → Type 0} {l : Local} (P : A → Type 0) (at : ℕ) (r : Result A Fault) (k : A → Local → Run B) → LocalFits x scope l → Fair P r
    → ((a : A) → P a → Runs side x scope after Q (classes_of l.heap) (k a l)) → Runs side x scope after Q (classes_of l.heap) (next (end l (raises at r)) k)
helped P at (Ok a) k state h more = more a h
helped {side = side} {x = x} {l = l} P at (Err f) k state h more = falls (raised f at) (rule_fits x.declared (raised f at) h) state (grown_same (classes_of l.heap))

pub helped_end : {A : Type 0} {side : Side} {x : Context} {scope : Scope} (l : Local) (P : List (List ℕ) → A → Type 0) (at : ℕ) (r : Result A Fault) → LocalFits x scope l → Fair (P (classes_of l.heap)) r → Runs side x scope scope P (classes_of l.heap) (end l (raises at r))
helped_end l P at (Ok a) state h = ends a h state (grown_same (classes_of l.heap))
helped_end {side = side} {x = x} l P at (Err f) state h = falls (raised f at) (rule_fits x.declared (raised f at) h) state (grown_same (classes_of l.heap))

-- a block that has ended: the scope fits after a fault, too
pub record Left (x : Context) (scope : Scope) (cs : List (List ℕ)) (l1 : Local) : Type 0 where
  pub state : LocalFits x scope l1
  pub grown : Grown cs (classes_of l1.heap)

abbrev pub Closes : Context → Scope → List (List ℕ) → Outcome (Unit {0}) → Type 0
Closes x scope cs (Gave u l1) = Left x scope cs l1
Closes x scope cs (Faulted r l1) = FaultFits x.declared r × Left x scope cs l1

pub left_taken : (x : Context) (scope : Scope) (cs : List (List ℕ)) (n : ℕ) (l1 : Local) → length (frame_scope x.this scope) ≡ n → LocalHolds x scope l1 → Grown cs (classes_of l1.heap) → Left x scope cs (closed n l1)
left_taken x scope cs n l1 e h g =
    record {
      state = record {
        holds = record {
          names_fit = subst (λ m. NamesFit x.declared.interfaces (classes_of l1.heap) (frame_scope x.this scope) (take m l1.names)) e (names_take x.declared.interfaces (classes_of l1.heap) (frame_scope x.this scope) l1.names h.names_fit);
          heap_fits = h.heap_fits;
        };
        count = subst (λ m. length (frame_scope x.this scope) ≡ length (take m l1.names)) e (names_count x.declared.interfaces (classes_of l1.heap) (frame_scope x.this scope) l1.names h.names_fit);
      };
      grown = g;
    }

pub block_closes : {side : Side} {x : Context} {scope after : Scope} {l : Local} (run : Effect) → LocalFits x scope l → Within x scope after → Runs side x scope after Nothing (classes_of l.heap) (run l) → Keeps x.declared side (Closes x scope (classes_of l.heap)) (block run l)
block_closes {side = side} {x = x} {scope = scope} {after = after} {l = l} run state sub h =
    keeps_seq x.declared side (Ends x scope after Nothing (classes_of l.heap)) (Closes x scope (classes_of l.heap)) (run l) (closes (length l.names)) h.keeps at_end
  where
    at_end : (o : Outcome (Unit {0})) → Ends x scope after Nothing (classes_of l.heap) o → Keeps x.declared side (Closes x scope (classes_of l.heap)) (closes (length l.names) o)
    at_end (Gave u l1) e = left_taken x scope (classes_of l.heap) (length l.names) l1 state.count (holds_less x scope after l1 sub e.state.holds) e.grown
    at_end (Faulted r l1) e = (e.fault, left_taken x scope (classes_of l.heap) (length l.names) l1 state.count e.state e.grown)

pub block_runs : {side : Side} {x : Context} {scope after : Scope} {l : Local} (run : Effect) → LocalFits x scope l → Within x scope after → Runs side x scope after Nothing (classes_of l.heap) (run l) → Runs side x scope scope Nothing (classes_of l.heap) (block run l)
block_runs {side = side} {x = x} {scope = scope} {after = after} {l = l} run state sub h =
    record { keeps = keeps_more x.declared side (Closes x scope (classes_of l.heap)) (Ends x scope scope Nothing (classes_of l.heap)) (block run l) open_up (block_closes run state sub h) }
  where
    open_up : (o : Outcome (Unit {0})) → Closes x scope (classes_of l.heap) o → Ends x scope scope Nothing (classes_of l.heap) o
    open_up (Gave u l1) e = record { gives = tt; state = e.state; grown = e.grown }
    open_up (Faulted r l1) e = record { fault = e.0; state = e.1.state.holds; grown = e.1.grown }

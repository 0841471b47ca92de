-- A run of a script against a walk over the source: the same fault at the same position, and the same server.
use Rattle.std.proofs.Common.{◌≡◌, refl, sym, ap, subst, arith, ℕ, zero, suc, ◌-◌, List, [], ◌∷◌, Bool as Truth, true, false, cond, All, Option, Some, None, Result, Ok, Err}
use Rattle.std.proofs.lemmas.List.Elements.{All-head, All-tail}
use Rattle.rb_trees.specs.Outcome.{◌>>◌, must}
use Rattle.rb_trees.specs.declared.values.Value.{Value}
use Rattle.rb_trees.specs.declared.values.Value.TheVariants as value
use Rattle.rb_trees.specs.declared.values.Value.TheViews.{out-Value}
use Rattle.rb_trees.specs.declared.values.Fault.{Fault}
use Rattle.rb_trees.specs.mirror.Forests.{Entry}
use Rattle.rb_trees.specs.mirror.Forests as forest
use Rattle.rb_trees.specs.mirror.Services.{Service}
use Rattle.rb_meaning_types.specs.Fits.{TableFits}
use Rattle.rb_meaning_code.specs.Faults.{fuel_used, kind}
use Rattle.rb_meaning_code.specs.Calls.{unit_due}
use Rattle.rb_meaning_code.specs.Remote.{Server, Reply, Got, Stopped, and_then, replies}
use Rattle.rb_meaning_code.specs.ScriptRun.{PlacedFault, Ran, with_entry, on_reply, is_primitive, kept, with_kept, goes_on, chosen, branched, Why, AllDone, InTurn, NoUnit, Turned, with_unit, turned_on, turn_over, after_turns, walked}
use Rattle.rb_meaning_code.specs.ScriptRun as run
use Rattle.rb_meaning.specs.RemoteAnswers.{unit_of}
use Rattle.rb_meaning.specs.RemotePart.{Walked}
use Rattle.rb_meaning.specs.RemotePart as part
use Rattle.rb_meaning.specs.Unsplit.{server_after}
use Rattle.rb_law_script.specs.Remote.{fault_of}
use Rattle.rb_law_unsplit.proofs.Handling.{Fine}

pub and_then_after : {A B C : Type 0} (r : Reply A) (k : A → Server → Reply B) (k2 : B → Server → Reply C) → and_then (and_then r k) k2 ≡ and_then r (λ a s. and_then (k a s) k2)
and_then_after (Got a s) k k2 = refl
and_then_after (Stopped at f s) k k2 = refl

-- a step's value is the same where it may be kept
pub kept_got : (keep : Truth) (at : ℕ) (v : Value) (s : Server) → (keep ≡ true → is_primitive (out-Value v) ≡ true) → kept keep at v s ≡ Got v s
kept_got true at v s h = ap (λ t. replies at (must t kind >> Ok v) s) (h refl)
kept_got false at v s h = refl

module _ (service : Service) where
  abbrev pub Table : Server → Type 0
  Table s = TableFits service.classes service.root s.table

  -- what a reply gives is so, and the table fits
  abbrev pub Sound : {A : Type 0} → (A → Type 0) → Reply A → Type 0
  Sound P (Got a s) = P a × Table s
  Sound P (Stopped at f s) = Table s

  pub fine_sound : {A : Type 0} (P : A → Type 0) (r : Reply A) → Fine service P r → Sound P r
  fine_sound P (Got a s) h = h
  fine_sound P (Stopped at f s) h = h.1

  pub then_sound : {A B : Type 0} (P : A → Type 0) (Q : B → Type 0) (r : Reply A) (k : A → Server → Reply B) → Sound P r → ((a : A) (s : Server) → P a → Table s → Sound Q (k a s)) → Sound Q (and_then r k)
  then_sound P Q (Got a s) k h more = more a s h.0 h.1
  then_sound P Q (Stopped at f s) k h more = h

  pub rule_sound : {A : Type 0} (Q : A → Type 0) (at : ℕ) (r : Result A Fault) (s : Server) → ((a : A) → r ≡ Ok a → Q a) → Table s → Sound Q (replies at r s)
  rule_sound Q at (Ok a) s h t = (h a refl, t)
  rule_sound Q at (Err f) s h t = t

  pub kept_same : (P : Value → Type 0) (keep : Truth) (at : ℕ) (r : Reply Value) → Sound P r → (keep ≡ true → (v : Value) → P v → is_primitive (out-Value v) ≡ true) → and_then r (kept keep at) ≡ r
  kept_same P keep at (Got v s) h primitive = kept_got keep at v s (λ e. primitive e v h.0)
  kept_same P keep at (Stopped place f s) h primitive = refl

  pub record Alike (w : Walked) (r : Ran) : Type 0 where
    pub fault : r.fault ≡ fault_of w
    pub server : r.server ≡ server_after w
    pub table : Table (server_after w)

  -- a reply, and what follows it
  pub reply_alike : {A : Type 0} (P : A → Type 0) (id : ℕ) (r r' : Reply A) (k : A → Server → Walked) (kr : A → Server → Ran) → r' ≡ r → Sound P r → ((a : A) (s : Server) → P a → Table s → Alike (k a s) (kr a s)) → Alike (and_then r k) (on_reply id r' kr)
  reply_alike P id r r' k kr e sound more = subst (λ q. Alike (and_then r k) (on_reply id q kr)) (sym e) (by r sound more)
    where
      by : (q : Reply _) → Sound P q → ((a : _) (s : Server) → P a → Table s → Alike (k a s) (kr a s)) → Alike (and_then q k) (on_reply id q kr)
      by (Got a s) h m = m a s h.0 h.1
      by (Stopped at f s) h m = record { fault = refl; server = refl; table = h }

  pub entry_alike : (w : Walked) (r : Ran) (en : Entry) → Alike w r → Alike w (with_entry en r)
  entry_alike w r en a = record { fault = a.fault; server = a.server; table = a.table }

  pub kept_alike : (w : Walked) (r : Ran) (keep : Truth) (v : Value) → Alike w r → Alike w (with_kept keep v r)
  kept_alike w r true v a = entry_alike w r (forest.Value v) a
  kept_alike w r false v a = a

  -- a branch that was run to its end, and what follows it
  pub goes_alike : (w : Walked) (r : Ran) (en : Entry) (k : Server → Walked) (kr : Server → Ran) → Alike w r → ((s : Server) → Table s → Alike (k s) (kr s)) → Alike (and_then w (λ u s. k s)) (with_entry en (goes_on r.fault r.server kr))
  goes_alike w r en k kr a more = by w a.fault a.server a.table
    where
      by : (q : Walked) → r.fault ≡ fault_of q → r.server ≡ server_after q → Table (server_after q) → Alike (and_then q (λ u s. k s)) (with_entry en (goes_on r.fault r.server kr))
      by (Got u s) e e1 t =
          subst (λ o. Alike (k s) (with_entry en (goes_on o r.server kr))) (sym e) (subst (λ z. Alike (k s) (with_entry en (kr z))) (sym e1) (entry_alike (k s) (kr s) en (more s t)))
      by (Stopped at f s) e e1 t =
          subst (λ o. Alike (Stopped at f s) (with_entry en (goes_on o r.server kr))) (sym e) (record { fault = refl; server = e1; table = t })

  pub branch_alike : (holds : Truth) (wa wb : Walked) (ra rb : Ran) (k : Server → Walked) (kr : Server → Ran) → Alike wa ra → Alike wb rb → ((s : Server) → Table s → Alike (k s) (kr s)) → Alike (and_then (cond holds wa wb) (λ u s. k s)) (branched holds (chosen holds ra rb) kr)
  branch_alike true wa wb ra rb k kr a b more = goes_alike wa ra (forest.Branch true ra.node) k kr a more
  branch_alike false wa wb ra rb k kr a b more = goes_alike wb rb (forest.Branch false rb.node) k kr b more

  -- turns

  abbrev why_fault : ℕ → Why → Option PlacedFault
  why_fault at AllDone = None
  why_fault at (InTurn f) = Some f
  why_fault at NoUnit = Some (record { at = at; fault = fuel_used })

  record TurnsAlike (at : ℕ) (w : Walked) (t : Turned) : Type 0 where
    fault : why_fault at t.why ≡ fault_of w
    server : t.server ≡ server_after w
    table : Table (server_after w)

  one_less : (n m : ℕ) → n ≡ suc m → n - 1 ≡ m
  one_less n m e = omega (arith, e)

  -- a turn's unit of fuel
  unit_alike : (at : ℕ) (s : Server) (k : Server → Walked) (kt : Server → Turned) → Table s → ((s1 : Server) → Table s1 → TurnsAlike at (k s1) (kt s1)) → TurnsAlike at (and_then (unit_of at s) (λ u s1. k s1)) (with_unit s.fuel s kt)
  unit_alike at s k kt t more = by s.fuel refl
    where
      by : (fuel : ℕ) → s.fuel ≡ fuel → TurnsAlike at (and_then (and_then (replies at (unit_due fuel) s) (λ u s1. Got value.Unit (record s1 { fuel = s1.fuel - 1 }))) (λ u s1. k s1)) (with_unit fuel s kt)
      by zero e = record { fault = refl; server = refl; table = t }
      by (suc n) e = subst (λ m. TurnsAlike at (k (record s { fuel = m })) (kt (record s { fuel = n }))) (sym (one_less s.fuel n e)) (more (record s { fuel = n }) t)

  turned_alike : (at : ℕ) (w : Walked) (r : Ran) (k : Server → Walked) (kt : Server → Turned) → Alike w r → ((s : Server) → Table s → TurnsAlike at (k s) (kt s)) → TurnsAlike at (and_then w (λ u s. k s)) (turned_on r.node r.fault r.server kt)
  turned_alike at w r k kt a more = by w a.fault a.server a.table
    where
      by : (q : Walked) → r.fault ≡ fault_of q → r.server ≡ server_after q → Table (server_after q) → TurnsAlike at (and_then q (λ u s. k s)) (turned_on r.node r.fault r.server kt)
      by (Got u s) e e1 t =
          subst (λ o. TurnsAlike at (k s) (turned_on r.node o r.server kt)) (sym e)
          (subst (λ z. TurnsAlike at (k s) (turned_on r.node None z kt)) (sym e1) (let m = more s t in record { fault = m.fault; server = m.server; table = m.table }))
      by (Stopped place f s) e e1 t = subst (λ o. TurnsAlike at (Stopped place f s) (turned_on r.node o r.server kt)) (sym e) (record { fault = refl; server = e1; table = t })

  turns_same : (P : Value → Type 0) (at : ℕ) (turn : Value → Server → Walked) (run_turn : Value → Server → Ran) → ((row : Value) (s : Server) → P row → Table s → Alike (turn row s) (run_turn row s)) → (rows : List Value) (s : Server) → All P rows → Table s
      → TurnsAlike at (part.turns at turn rows s) (run.turns run_turn rows s)
  turns_same P at turn run_turn each [] s h t = record { fault = refl; server = refl; table = t }
  turns_same P at turn run_turn each (row ∷ rows) s h t =
      unit_alike at s (λ s1. and_then (turn row s1) (λ v s2. part.turns at turn rows s2)) (λ s1. turned_on (run_turn row s1).node (run_turn row s1).fault (run_turn row s1).server (run.turns run_turn rows)) t (λ s1 t1.
      turned_alike at (turn row s1) (run_turn row s1) (λ s2. part.turns at turn rows s2) (run.turns run_turn rows) (each row s1 (All-head P row rows h) t1) (λ s2 t2.
      turns_same P at turn run_turn each rows s2 (All-tail P row rows h) t2))

  after_alike : (id at : ℕ) (w : Walked) (nodes : forest.Nodes) (why : Why) (server : Server) (k : Server → Walked) (kr : Server → Ran) → why_fault at why ≡ fault_of w → server ≡ server_after w → Table (server_after w) → ((s : Server) → Table s → Alike (k s) (kr s))
      → Alike (and_then w (λ u s. k s)) (with_entry (forest.Rows nodes) (after_turns id at why server kr))
  after_alike id at (Got u s) nodes AllDone server k kr e e1 t more = subst (λ z. Alike (k s) (with_entry (forest.Rows nodes) (kr z))) (sym e1) (entry_alike (k s) (kr s) (forest.Rows nodes) (more s t))
  after_alike id at (Got u s) nodes (InTurn f) server k kr e e1 t more = absurd (cc (e))
  after_alike id at (Got u s) nodes NoUnit server k kr e e1 t more = absurd (cc (e))
  after_alike id at (Stopped place f s) nodes AllDone server k kr e e1 t more = absurd (cc (e))
  after_alike id at (Stopped place f s) nodes (InTurn f') server k kr e e1 t more = record { fault = e; server = e1; table = t }
  after_alike id at (Stopped place f s) nodes NoUnit server k kr e e1 t more = record { fault = e; server = e1; table = t }

  -- the turns over rows or items, and what follows them
  pub turns_alike : (P : Value → Type 0) (id at : ℕ) (turn : Value → Server → Walked) (run_turn : Value → Server → Ran) → ((row : Value) (s : Server) → P row → Table s → Alike (turn row s) (run_turn row s)) → (rows : List Value) (s : Server) (k : Server → Walked) (kr : Server → Ran) → All P rows → Table s
      → ((s1 : Server) → Table s1 → Alike (k s1) (kr s1)) → Alike (and_then (part.turns at turn rows s) (λ u s1. k s1)) (walked id at (run.turns run_turn rows s) kr)
  turns_alike P id at turn run_turn each rows s k kr h t more =
      let same = turns_same P at turn run_turn each rows s h t in
      let turned = run.turns run_turn rows s in
      after_alike id at (part.turns at turn rows s) turned.nodes turned.why turned.server k kr same.fault same.server same.table more

  -- a turn, whose row may be kept
  pub turn_alike : (id at : ℕ) (keep : Truth) (block : Server → Ran) (row : Value) (s : Server) (w : Walked) → (keep ≡ true → is_primitive (out-Value row) ≡ true) → Alike w (block s) → Alike w (turn_over id at keep block row s)
  turn_alike id at keep block row s w primitive a =
      subst (λ r. Alike w (on_reply id r (λ v s1. with_kept keep v (block s1)))) (sym (kept_got keep at row s primitive)) (kept_alike w (block s) keep row a)

-- How the walk of `fits` reads the nodes that runs give.
use Rattle.std.proofs.Common.{◌≡◌, refl, subst, ap, sym, ◌∙◌, ℕ, zero, suc, ◌≤◌, List, [], ◌∷◌, Bool as Truth, true, false, cond, arith, get_or, Option, Some, None, is_some, Result, Ok, Err}
use Rattle.std.specs.List.{AllByRecursion}
use Rattle.std.proofs.lemmas.Bool.{eq-eqb, ne_eqb}
use Rattle.rb_trees.specs.Outcome.{◌>>=◌}
use Rattle.rb_trees.specs.declared.values.Value.{Value, out-Value}
use Rattle.rb_trees.specs.declared.values.Fault.{Fault}
use Rattle.rb_trees.specs.declared.services.Object.{Object}
use Rattle.rb_trees.specs.declared.forests.NodeFault.{NodeFault}
use Rattle.rb_trees.specs.mirror.Forests as forest
use Rattle.rb_trees.specs.mirror.Forests.{Node, Holds, Entries, NoEntries, MoreEntries, Nodes, NoNodes, MoreNodes}
use Rattle.rb_trees.specs.mirror.Remainders as part
use Rattle.rb_trees.specs.mirror.Remainders.{Part, Parts, NoParts, MoreParts}
use Rattle.rb_meaning_bytes.specs.Fits.{form_has_kind, Walk, step_of, begun, leaves, behind, raised, raised_or, passed, demanded, went, value_read, values_read, row_read, turns_read, turns_done, faults_at, count_turns, is_counted, no_kind, part_read, parts_read}
use Rattle.rb_meaning_code.specs.Faults.{fuel_used}
use Rattle.rb_meaning_code.specs.Remote.{Server}
use Rattle.rb_meaning_code.specs.ScriptRun.{PlacedFault, Ran, stopped, in_front, with_entry, goes_on, Why, AllDone, InTurn, NoUnit, Turned, with_unit, turned_on, turns, after_turns}
use Rattle.rb_law_division.proofs.Early.{AreTurns, all_counted, turn_counted, unit_counted}

-- ---- walks

abbrev pub Reader : Type 0
Reader = Walk → Result Walk ℕ

-- It leaves a walk as it is that a fault stopped.
abbrev pub Rests : Reader → Type 0
Rests R = (w : Walk) → w.stopped ≡ true → R w ≡ Ok w

pub parts_rest : (lengths : List ℕ) (ps : Parts) → Rests (λ w. parts_read lengths ps w)
parts_rest lengths NoParts w h = refl
parts_rest lengths (MoreParts p ps) w h = ap (λ (t : Truth). cond t (Ok w) (part_read lengths p w >>= λ after. parts_read lengths ps after)) h

-- the values of a statement, and what follows them
abbrev pub taking : List (ℕ × ℕ) → Reader → Reader
taking ts R w = values_read ts w >>= R

pub takes_rest : (ts : List (ℕ × ℕ)) (R : Reader) → Rests R → Rests (taking ts R)
takes_rest [] R rests w h = rests w h
takes_rest (t ∷ ts) R rests w h = ap (λ (b : Truth). cond b (Ok w) (value_read t.0 t.1 w >>= λ after. values_read ts after) >>= R) h ∙ rests w h

-- one reading and then another
pub then_reads : (r : Result Walk ℕ) (w : Walk) (R : Reader) (o : Result Walk ℕ) → r ≡ Ok w → R w ≡ o → (r >>= R) ≡ o
then_reads r w R o e h = subst (λ q. (q >>= R) ≡ o) (sym e) h

pub regroup : (r : Result Walk ℕ) (F G : Reader) → (r >>= λ w. F w >>= G) ≡ ((r >>= F) >>= G)
regroup (Ok w) F G = refl
regroup (Err e) F G = refl

-- what reads the first of some parts, and of some values, where nothing stopped the walk
pub first_part : (lengths : List ℕ) (p : Part) (ps : Parts) (w : Walk) → w.stopped ≡ false → parts_read lengths (MoreParts p ps) w ≡ (part_read lengths p w >>= λ after. parts_read lengths ps after)
first_part lengths p ps w h = ap (λ (t : Truth). cond t (Ok w) (part_read lengths p w >>= λ after. parts_read lengths ps after)) h

pub first_taken : (t : ℕ × ℕ) (ts : List (ℕ × ℕ)) (R : Reader) (w : Walk) → w.stopped ≡ false → taking (t ∷ ts) R w ≡ (value_read t.0 t.1 w >>= taking ts R)
first_taken t ts R w h =
    ap (λ (b : Truth). cond b (Ok w) (value_read t.0 t.1 w >>= λ after. values_read ts after) >>= R) h ∙ sym (regroup (value_read t.0 t.1 w) (λ after. values_read ts after) R)

-- a walk that nothing stopped, with nothing spare
abbrev pub standing : Entries → Option ℕ → Walk
standing es f = record { left = es; fault = f; stopped = false; spare = false }

-- a walk that a fault stopped
abbrev pub over : Entries → Option ℕ → Walk
over es f = record { left = es; fault = f; stopped = true; spare = false }

-- a walk that begins isn't stopped
pub begins : (nd : Node) → (begun nd false).stopped ≡ false
begins (Holds es f) = refl

-- ---- the fault of a node

abbrev LaterFault : ℕ → Option NodeFault → Type 0
LaterFault n None = Unit {0}
LaterFault n (Some f) = n ≤ f.step

-- A node's fault stands at this step or a later one.
abbrev pub Later : ℕ → Node → Type 0
Later n (Holds es f) = LaterFault n f

later_fault : (n m : ℕ) (f : Option NodeFault) → n ≤ m → LaterFault m f → LaterFault n f
later_fault n m None l h = tt
later_fault n m (Some f) l h = omega arith

pub later_less : (n m : ℕ) (nd : Node) → n ≤ m → Later m nd → Later n nd
later_less n m (Holds es f) l h = later_fault n m f l h

-- no part passes a later step's fault for its own
pub passes : (n : ℕ) (nd : Node) → Later (suc n) nd → passed n (begun nd false) ≡ Ok (begun nd false)
passes n (Holds NoEntries None) h = refl
passes n (Holds NoEntries (Some f)) h = ap (λ (t : Truth). cond t (Ok (raised (standing NoEntries (Some f.step)))) (Ok (standing NoEntries (Some f.step)))) (ne_eqb f.step n (λ e. omega (arith, h, e)))
passes n (Holds (MoreEntries e es) f) h = refl

-- a fault at the step is raised, whatever comes else
pub raises_here : (n : ℕ) (other : Result Walk ℕ) → raised_or n (standing NoEntries (Some n)) other ≡ Ok (over NoEntries None)
raises_here n other = ap (λ (t : Truth). cond t (Ok (over NoEntries None)) other) (eq-eqb n n refl)

-- ---- what a run gives is read

-- where the lists of inputs have these lengths
module _ (lengths : List ℕ) (Fit : List Object → Type 0) where
  -- The reader reads the node of a run to its end, and is stopped as the run is; what the run leaves fits, if it goes on.
  pub record WalksOf (n : ℕ) (R : Reader) (nd : Node) (fault : Option PlacedFault) (server : Server) : Type 0 where
    pub later : Later n nd
    pub last : Walk
    pub read : R (begun nd false) ≡ Ok last
    pub left : leaves last ≡ false
    pub same : last.stopped ≡ is_some fault
    pub table : fault ≡ None → Fit server.table

  -- by another reader that reads the same
  pub walks_same : (n : ℕ) (R R' : Reader) (nd : Node) (fault : Option PlacedFault) (server : Server) → ((w : Walk) → w.stopped ≡ false → R w ≡ R' w) → WalksOf n R' nd fault server → WalksOf n R nd fault server
  walks_same n R R' nd fault server same h =
      record { later = h.later; last = h.last; read = same (begun nd false) (begins nd) ∙ h.read; left = h.left; same = h.same; table = h.table }

  -- by another reader that reads the node so
  walks_here : (n : ℕ) (R R' : Reader) (nd : Node) (fault : Option PlacedFault) (server : Server) → R (begun nd false) ≡ R' (begun nd false) → WalksOf n R' nd fault server → WalksOf n R nd fault server
  walks_here n R R' nd fault server same h = record { later = h.later; last = h.last; read = same ∙ h.read; left = h.left; same = h.same; table = h.table }

  abbrev pub Walks : ℕ → Reader → Ran → Type 0
  Walks n R r = WalksOf n R r.node r.fault r.server

  -- it is stopped in a step at which the reader raises
  pub walks_stopped : (n id at : ℕ) (f : Fault) (s : Server) (R : Reader) → n ≤ id → R (standing NoEntries (Some id)) ≡ Ok (over NoEntries None) → Walks n R (stopped id at f s)
  walks_stopped n id at f s R l h = record { later = l; last = over NoEntries None; read = h; left = refl; same = refl; table = λ e. absurd (cc e) }

  -- a step that gives no entry
  pub walks_passed : (n id after : ℕ) (ps : Parts) (nd : Node) (fault : Option PlacedFault) (s : Server) (p : Part) → ((w : Walk) → part_read lengths p w ≡ passed id w) → n ≤ id → suc id ≤ after
      → WalksOf after (λ w. parts_read lengths ps w) nd fault s → WalksOf n (λ w. parts_read lengths (MoreParts p ps) w) nd fault s
  walks_passed n id after ps (Holds es f) fault s p is l k h = record {
    later = later_fault n after f (omega arith) h.later;
    last = h.last;
    read = then_reads (part_read lengths p (standing es (step_of f))) (standing es (step_of f)) (λ w. parts_read lengths ps w) (Ok h.last)
        (is (standing es (step_of f)) ∙ passes id (Holds es f) (later_fault (suc id) after f k h.later)) h.read;
    left = h.left;
    same = h.same;
    table = h.table;
  }

  -- a value of a kind, and what follows it
  pub walks_value : (n id after kind : ℕ) (v : Value) (R : Reader) (nd : Node) (fault : Option PlacedFault) (s : Server) → n ≤ after → form_has_kind kind (out-Value v) ≡ true
      → WalksOf after R nd fault s → WalksOf n (λ w. value_read id kind w >>= R) (in_front (forest.Value v) nd) fault s
  walks_value n id after kind v R (Holds es f) fault s l held h = record {
    later = later_fault n after f l h.later;
    last = h.last;
    read = subst (λ (t : Truth). (demanded id (standing (MoreEntries (forest.Value v) es) (step_of f)) (cond t (Some es) None) (λ xs. Ok (went (standing (MoreEntries (forest.Value v) es) (step_of f)) xs)) >>= R) ≡ Ok h.last) (sym held) h.read;
    left = h.left;
    same = h.same;
    table = h.table;
  }

  -- the walk behind an entry whose own walk left nothing
  behind_is : (es rest : Entries) (f : Option ℕ) (inner : Walk) (t : Truth) → leaves inner ≡ false → inner.stopped ≡ t → behind (standing es f) rest inner ≡ record { left = rest; fault = f; stopped = t; spare = false }
  behind_is es rest f inner t l s =
      ap (λ (b : Truth). record { left = rest; fault = f; stopped = inner.stopped; spare = b }) l ∙ ap (λ (b : Truth). record { left = rest; fault = f; stopped = b; spare = false }) s

  -- the branch that was taken, and what follows it
  module _ (n id after : ℕ) (a b : Parts) (ps : Parts) (holds : Truth) (nd : Node) (inner : Walk) (read : cond holds (parts_read lengths a (begun nd false)) (parts_read lengths b (begun nd false)) ≡ Ok inner) (left : leaves inner ≡ false) where
    whole : Reader
    whole w = parts_read lengths (MoreParts (part.Branch id a b) ps) w

    branch_read : (es : Entries) (f : Option NodeFault) (t : Truth) (o : Result Walk ℕ) → inner.stopped ≡ t → parts_read lengths ps (record { left = es; fault = step_of f; stopped = t; spare = false }) ≡ o
        → parts_read lengths (MoreParts (part.Branch id a b) ps) (begun (Holds (MoreEntries (forest.Branch holds nd) es) f) false) ≡ o
    branch_read es f t o s h =
        let w = standing (MoreEntries (forest.Branch holds nd) es) (step_of f) in
        subst (λ q. ((q >>= λ i. Ok (behind w es i)) >>= λ x. parts_read lengths ps x) ≡ o) (sym read)
        (subst (λ q. parts_read lengths ps q ≡ o) (sym (behind_is (MoreEntries (forest.Branch holds nd) es) es (step_of f) inner t left s)) h)

    walks_behind : (nd2 : Node) (fault : Option PlacedFault) (s : Server) → inner.stopped ≡ false → n ≤ after → WalksOf after (λ w. parts_read lengths ps w) nd2 fault s
        → WalksOf n (λ w. parts_read lengths (MoreParts (part.Branch id a b) ps) w) (in_front (forest.Branch holds nd) nd2) fault s
    walks_behind (Holds es f) fault s e l h = record { later = later_fault n after f l h.later; last = h.last; read = branch_read es f false (Ok h.last) e h.read; left = h.left; same = h.same; table = h.table }

    pub walks_branch : (fl : Option PlacedFault) (s : Server) (go : Server → Ran) → inner.stopped ≡ is_some fl → n ≤ after → (fl ≡ None → Walks after (λ w. parts_read lengths ps w) (go s))
        → Walks n (λ w. parts_read lengths (MoreParts (part.Branch id a b) ps) w) (with_entry (forest.Branch holds nd) (goes_on fl s go))
    walks_branch None s go e l h = walks_behind (go s).node (go s).fault (go s).server e l (h refl)
    walks_branch (Some f) s go e l h = record {
      later = tt;
      last = over NoEntries None;
      read = branch_read NoEntries None true (Ok (over NoEntries None)) e (parts_rest lengths ps (over NoEntries None) refl);
      left = refl;
      same = refl;
      table = λ q. absurd (cc q);
    }

  -- ---- turns

  -- The node of a turn is read.
  pub record TurnWalks (id kind : ℕ) (body : Parts) (r : Ran) : Type 0 where
    pub last : Walk
    pub read : (row_read id kind (begun r.node false) >>= λ row. parts_read lengths body row) ≡ Ok last
    pub left : leaves last ≡ false
    pub same : last.stopped ≡ is_some r.fault
    pub table : r.fault ≡ None → Fit r.server.table

  -- where the walk stands behind turns
  abbrev after_why : Why → Entries → Option ℕ → Walk
  after_why AllDone es f = standing es f
  after_why (InTurn fault) es f = over es f
  after_why NoUnit es f = standing es f

  pub record TurnsWalk (id kind : ℕ) (body : Parts) (nodes : Nodes) (why : Why) (server : Server) : Type 0 where
    pub read : (es : Entries) (f : Option ℕ) → turns_read id kind (λ inner. parts_read lengths body inner) nodes (standing es f) ≡ Ok (after_why why es f)
    pub table : why ≡ AllDone → Fit server.table

  module _ (id kind : ℕ) (body : Parts) where
    one_turn : (nd : Node) (ns : Nodes) (es : Entries) (f : Option ℕ) (last : Walk) (t : Truth) (o : Result Walk ℕ) → (row_read id kind (begun nd false) >>= λ row. parts_read lengths body row) ≡ Ok last → leaves last ≡ false → last.stopped ≡ t
        → turns_read id kind (λ inner. parts_read lengths body inner) ns (record { left = es; fault = f; stopped = t; spare = false }) ≡ o
        → turns_read id kind (λ inner. parts_read lengths body inner) (MoreNodes nd ns) (standing es f) ≡ o
    one_turn nd ns es f last t o read left s h =
        regroup (row_read id kind (begun nd false)) (λ row. parts_read lengths body row) (λ inner. turns_read id kind (λ i. parts_read lengths body i) ns (behind (standing es f) es inner))
        ∙ then_reads (row_read id kind (begun nd false) >>= λ row. parts_read lengths body row) last (λ inner. turns_read id kind (λ i. parts_read lengths body i) ns (behind (standing es f) es inner)) o read
        (subst (λ q. turns_read id kind (λ i. parts_read lengths body i) ns q ≡ o) (sym (behind_is es es f last t left s)) h)

    module _ (P : Value → Type 0) (turn : Value → Server → Ran) (each : (row : Value) (s : Server) → P row → Fit s.table → TurnWalks id kind body (turn row s)) where
      turned : (nd : Node) (fault : Option PlacedFault) (s : Server) (go : Server → Turned) (last : Walk) → (row_read id kind (begun nd false) >>= λ row. parts_read lengths body row) ≡ Ok last → leaves last ≡ false → last.stopped ≡ is_some fault
          → (fault ≡ None → TurnsWalk id kind body (go s).nodes (go s).why (go s).server)
          → TurnsWalk id kind body (turned_on nd fault s go).nodes (turned_on nd fault s go).why (turned_on nd fault s go).server
      turned nd None s go last read left same h =
          record { read = λ es f. one_turn nd (go s).nodes es f last false (Ok (after_why (go s).why es f)) read left same ((h refl).read es f); table = λ e. (h refl).table e }
      turned nd (Some fault) s go last read left same h =
          record { read = λ es f. one_turn nd NoNodes es f last true (Ok (over es f)) read left same refl; table = λ e. absurd (cc e) }

      pub turns_walk : (rows : List Value) (s : Server) → AllByRecursion P rows → Fit s.table → TurnsWalk id kind body (turns turn rows s).nodes (turns turn rows s).why (turns turn rows s).server
      turns_walk [] s h t = record { read = λ es f. refl; table = λ e. t }
      turns_walk (row ∷ rows) s h t = by s.fuel (λ s1 t1. turns_walk rows s1 h.1 t1)
        where
          turn_on : Server → Turned
          turn_on s1 = let r = turn row s1 in turned_on r.node r.fault r.server (turns turn rows)

          by : (fuel : ℕ) → ((s1 : Server) → Fit s1.table → TurnsWalk id kind body (turns turn rows s1).nodes (turns turn rows s1).why (turns turn rows s1).server)
              → TurnsWalk id kind body (with_unit fuel s (λ s1. let r = turn row s1 in turned_on r.node r.fault r.server (turns turn rows))).nodes (with_unit fuel s (λ s1. let r = turn row s1 in turned_on r.node r.fault r.server (turns turn rows))).why (with_unit fuel s (λ s1. let r = turn row s1 in turned_on r.node r.fault r.server (turns turn rows))).server
          by zero more = record { read = λ es f. refl; table = λ e. absurd (cc e) }
          by (suc n) more =
              let s1 : Server = record s { fuel = n } in
              let w = each row s1 h.0 t in
              turned (turn row s1).node (turn row s1).fault (turn row s1).server (turns turn rows) w.last w.read w.left w.same (λ e. more (turn row s1).server (w.table e))

    -- the turns, and what follows them
    module _ (n at after : ℕ) (name : List ℕ) (ps : Parts) (go : Server → Ran) (l : n ≤ id) (k : suc id ≤ after) (follow : (s : Server) → Fit s.table → Walks after (λ w. parts_read lengths ps w) (go s)) where
      turns_read_by : (nodes : Nodes) (es : Entries) (f : Option NodeFault) (w1 : Walk) (o : Result Walk ℕ) → turns_read id kind (λ inner. parts_read lengths body inner) nodes (standing es (step_of f)) ≡ Ok w1 → (turns_done id w1 >>= λ x. parts_read lengths ps x) ≡ o
          → parts_read lengths (MoreParts (part.Turns id name kind body) ps) (begun (Holds (MoreEntries (forest.Rows nodes) es) f) false) ≡ o
      turns_read_by nodes es f w1 o e h = subst (λ q. ((q >>= λ x. turns_done id x) >>= λ x. parts_read lengths ps x) ≡ o) (sym e) h

      walks_done : (nodes : Nodes) (nd : Node) (fault : Option PlacedFault) (s : Server) → ((es : Entries) (f : Option ℕ) → turns_read id kind (λ inner. parts_read lengths body inner) nodes (standing es f) ≡ Ok (standing es f))
          → WalksOf after (λ w. parts_read lengths ps w) nd fault s → WalksOf n (λ w. parts_read lengths (MoreParts (part.Turns id name kind body) ps) w) (in_front (forest.Rows nodes) nd) fault s
      walks_done nodes (Holds es f) fault s read h = record {
        later = later_fault n after f (omega arith) h.later;
        last = h.last;
        read = turns_read_by nodes es f (standing es (step_of f)) (Ok h.last) (read es (step_of f))
            (then_reads (passed id (standing es (step_of f))) (standing es (step_of f)) (λ x. parts_read lengths ps x) (Ok h.last) (passes id (Holds es f) (later_fault (suc id) after f k h.later)) h.read);
        left = h.left;
        same = h.same;
        table = h.table;
      }

      pub walks_turns : (nodes : Nodes) (why : Why) (s : Server) → TurnsWalk id kind body nodes why s
          → Walks n (λ w. parts_read lengths (MoreParts (part.Turns id name kind body) ps) w) (with_entry (forest.Rows nodes) (after_turns id at why s go))
      walks_turns nodes AllDone s h = walks_done nodes (go s).node (go s).fault (go s).server h.read (follow s (h.table refl))
      walks_turns nodes (InTurn f) s h = record {
        later = tt;
        last = over NoEntries None;
        read = turns_read_by nodes NoEntries None (over NoEntries None) (Ok (over NoEntries None)) (h.read NoEntries None) (parts_rest lengths ps (over NoEntries None) refl);
        left = refl;
        same = refl;
        table = λ e. absurd (cc e);
      }
      walks_turns nodes NoUnit s h = record {
        later = l;
        last = over NoEntries None;
        read = turns_read_by nodes NoEntries (Some (record { step = id; at = at; fault = fuel_used })) (standing NoEntries (Some id)) (Ok (over NoEntries None)) (h.read NoEntries (Some id))
            (then_reads (passed id (standing NoEntries (Some id))) (over NoEntries None) (λ x. parts_read lengths ps x) (Ok (over NoEntries None)) (raises_here id (Ok (standing NoEntries (Some id)))) (parts_rest lengths ps (over NoEntries None) refl));
        left = refl;
        same = refl;
        table = λ e. absurd (cc e);
      }

  -- ---- turns over the items of a list

  module _ (id : ℕ) (body : Parts) (n at after : ℕ) (name list : List ℕ) (input : ℕ) (ps : Parts) (go : Server → Ran) (l : n ≤ id) (k : suc id ≤ after) (follow : (s : Server) → Fit s.table → Walks after (λ w. parts_read lengths ps w) (go s)) where
    abbrev whole_over : Reader
    whole_over w = parts_read lengths (MoreParts (part.Over id at name list input body) ps) w

    abbrev whole_turns : Reader
    whole_turns w = parts_read lengths (MoreParts (part.Turns id name no_kind body) ps) w

    over_same : (nodes : Nodes) (es : Entries) (f : Option NodeFault) → is_counted (get_or lengths input 0) nodes (faults_at id (standing es (step_of f))) ≡ true
        → whole_over (begun (Holds (MoreEntries (forest.Rows nodes) es) f) false) ≡ whole_turns (begun (Holds (MoreEntries (forest.Rows nodes) es) f) false)
    over_same nodes es f c =
        ap (λ (t : Truth). cond t (turns_read id no_kind (λ inner. parts_read lengths body inner) nodes (standing es (step_of f)) >>= λ w. turns_done id w) (Err id) >>= λ w. parts_read lengths ps w) c

    counted_done : (nodes : Nodes) (nd : Node) (fault : Option PlacedFault) (s : Server) → count_turns nodes ≡ get_or lengths input 0 → Later after nd → WalksOf n whole_turns (in_front (forest.Rows nodes) nd) fault s
        → WalksOf n whole_over (in_front (forest.Rows nodes) nd) fault s
    counted_done nodes (Holds es f) fault s c later h =
        walks_here n whole_over whole_turns (Holds (MoreEntries (forest.Rows nodes) es) f) fault s (over_same nodes es f (all_counted (get_or lengths input 0) nodes (faults_at id (standing es (step_of f))) c (not_here es f later))) h
      where
        not_here : (xs : Entries) (q : Option NodeFault) → LaterFault after q → faults_at id (standing xs (step_of q)) ≡ false
        not_here NoEntries None g = refl
        not_here NoEntries (Some q) g = ne_eqb q.step id (λ e. omega (arith, g, e, k))
        not_here (MoreEntries x xs) q g = refl

    pub walks_over : (nodes : Nodes) (why : Why) (s : Server) → AreTurns (get_or lengths input 0) nodes why → TurnsWalk id no_kind body nodes why s → Walks n whole_over (with_entry (forest.Rows nodes) (after_turns id at why s go))
    walks_over nodes AllDone s c h =
        counted_done nodes (go s).node (go s).fault (go s).server c (follow s (h.table refl)).later (walks_turns id no_kind body n at after name ps go l k follow nodes AllDone s h)
    walks_over nodes (InTurn f) s c h =
        let r = with_entry (forest.Rows nodes) (after_turns id at (InTurn f) s go) in
        walks_here n whole_over whole_turns r.node r.fault r.server (over_same nodes NoEntries None (turn_counted (get_or lengths input 0) nodes c.0 c.1)) (walks_turns id no_kind body n at after name ps go l k follow nodes (InTurn f) s h)
    walks_over nodes NoUnit s c h =
        let r = with_entry (forest.Rows nodes) (after_turns id at NoUnit s go) in
        walks_here n whole_over whole_turns r.node r.fault r.server
        (over_same nodes NoEntries (Some (record { step = id; at = at; fault = fuel_used }))
        (subst (λ (t : Truth). is_counted (get_or lengths input 0) nodes t ≡ true) (sym (eq-eqb id id refl)) (unit_counted (get_or lengths input 0) nodes c)))
        (walks_turns id no_kind body n at after name ps go l k follow nodes NoUnit s h)

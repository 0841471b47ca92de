-- What walks over the parts of a remainder and a forest in its bytes stand on.
use Rattle.std.proofs.Common.{◌≡◌, ◌-◌, ◌<◌, ◌≤◌, ◌+◌, ℕ, List, [], ◌∷◌, Bool, true, false, cond, refl, ap, sym, ◌∙◌, subst, arith, get_or, Option, None, Some, Result, Ok, Err}
use Rattle.rb_trees.specs.declared.code.Expr as expr
use Rattle.rb_trees.specs.declared.code.Stmt as stmt
use Rattle.rb_trees.specs.declared.forests.NodeFault.{NodeFault}
use Rattle.rb_trees.specs.declared.remainders.Part as part
use Rattle.rb_trees.specs.declared.remainders.Part.TheVariants as part_form
use Rattle.rb_trees.specs.mirror.Forests as forest
use Rattle.rb_trees.specs.mirror.Forests.{Node, Holds, Entries, NoEntries, MoreEntries, Nodes, NoNodes, MoreNodes}
use Rattle.rb_trees.specs.mirror.Remainders.{Part, mirror_part, mirror_parts}
use Rattle.rb_trees.proofs.mirror.Parts.{form_Plain, form_Pass, form_Bind, form_Both, form_Branch, form_Turns, form_Over}
use Rattle.rb_trees.specs.Outcome.{◌>>=◌, Gives}
use Rattle.rb_meaning_bytes.specs.formats.ForestBytes.{count_nodes}
use Rattle.rb_meaning_bytes.specs.Fits as meaning
use Rattle.rb_meaning_bytes.specs.Fits.{Walk, begun, behind, leaves, went, with_spare, demanded, raised_or, passed, value_read, values_read, first_branch, first_rows, row_read, part_read, parts_read, turns_read, turns_done, is_counted, faults_at, no_kind, fits, judged}
use Rattle.rb_wire_forest.specs.Opens.{Open, AtNode, AtRows}
use Rattle.rb_wire_forest.specs.CursorSteps.{next_branch, next_rows, next_turn, Moves, closed}
use Rattle.rb_wire_forest.specs.Walks.{step_told, loop_read, list_read}
use Rattle.rb_wire_forest.specs.declared.forest_walk.Progress.{Progress}
use Rattle.rb_wire_forest.specs.ForestWalks.{walk_of, Begins, Spares, InNode, InRows, Reaches, Walks, after_node, Closes, ReadsNode, turn_read, ReadsTurn, ReadsTurns, ReadsList}
use Rattle.rb_wire_forest.proofs.ForestWalked.{passes, missed, closed_is}

-- ---- a node

abbrev done : Progress → Result Progress ℕ
done p = Ok p

abbrev failed : ℕ → Result Progress ℕ
failed step = Err step

-- The walk of the node around goes on behind it.
pub goes_behind : (meant : Result Walk ℕ) (from : Progress) (es rest : Entries) (f : Option NodeFault) (around : List Open) (result : Result Progress ℕ) (new : List Open)
    → Closes (meant >>= λ w. Ok (after_node from w)) (AtNode (Holds rest f) ∷ around) result new → Reaches (meant >>= λ w. Ok (behind (walk_of from es f) rest w)) f around result new
goes_behind (Ok w) from es rest f around (Ok p) new c =
    let i : done (after_node from w) ≡ done p = c.0 in
    let e : after_node from w ≡ p = cc in
    (rest, c.1, ap (λ q. Ok (walk_of q rest f)) e)
goes_behind (Ok w) from es rest f around (Err step) new c =
    let i : done (after_node from w) ≡ Err step = c in
    absurd cc
goes_behind (Err d) from es rest f around (Ok p) new c =
    let i : Err d ≡ done p = c.0 in
    absurd cc
goes_behind (Err d) from es rest f around (Err step) new c =
    let i : failed d ≡ failed step = c in
    let e : d ≡ step = cc in
    ap (λ s. Err s) e

-- ---- a branch

abbrev and_open : {A : Type 0} → A → List Open → A × List Open
and_open a os = (a, os)

-- A branch stands first.
record FirstBranch (taken : Bool) (es : Entries) (f : Option NodeFault) (around new : List Open) : Type 0 where
  pub inner : Entries
  pub fault : Option NodeFault
  pub rest : Entries
  pub es_is : es ≡ MoreEntries (forest.Branch taken (Holds inner fault)) rest
  pub new_is : new ≡ AtNode (Holds inner fault) ∷ AtNode (Holds rest f) ∷ around

branch_opens : (taken : Bool) (old new : List Open) → next_branch old ≡ Some (taken, new) → (es : Entries) (f : Option NodeFault) (around : List Open) → old ≡ AtNode (Holds es f) ∷ around → FirstBranch taken es f around new
branch_opens taken old new i es f around h = go es (sym (ap next_branch h) ∙ i)
  where
    go : (es : Entries) → next_branch (AtNode (Holds es f) ∷ around) ≡ Some (taken, new) → FirstBranch taken es f around new
    go NoEntries j = absurd cc
    go (MoreEntries (forest.Value u) rest) j = absurd cc
    go (MoreEntries (forest.Branch t (Holds inner fault)) rest) j =
        let e : and_open t (AtNode (Holds inner fault) ∷ AtNode (Holds rest f) ∷ around) ≡ and_open taken new = cc in
        record { inner = inner; fault = fault; rest = rest; es_is = ap (λ x. MoreEntries (forest.Branch x.0 (Holds inner fault)) rest) e; new_is = sym (ap (λ x. x.1) e) }
    go (MoreEntries (forest.Rows ns) rest) j = absurd cc

no_branch : (old : List Open) → next_branch old ≡ None → InNode old (λ es f. first_branch es ≡ None)
no_branch old i es f around h = go es (sym (ap next_branch h) ∙ i)
  where
    go : (es : Entries) → next_branch (AtNode (Holds es f) ∷ around) ≡ None → first_branch es ≡ None
    go NoEntries j = refl
    go (MoreEntries (forest.Value u) rest) j = refl
    go (MoreEntries (forest.Branch t n) rest) j = absurd cc
    go (MoreEntries (forest.Rows ns) rest) j = refl

module _ (lengths : List ℕ) where
  -- what a part with these branches reads
  abbrev branch_read : ℕ → (thens elses : List part.Part) → Walk → Result Walk ℕ
  branch_read step thens elses w =
      demanded step w (first_branch w.left) (λ x. cond x.0 (parts_read lengths (mirror_parts thens) (begun x.1 w.spare)) (parts_read lengths (mirror_parts elses) (begun x.1 w.spare)) >>= λ inner. Ok (behind w x.2 inner))

  branch_walks : (step : ℕ) (thens elses chosen : List part.Part) (taken : Bool) (from b : Progress) (old mid new : List Open) (result : Result Progress ℕ)
      → ((w : Walk) → cond taken (parts_read lengths (mirror_parts thens) w) (parts_read lengths (mirror_parts elses) w) ≡ parts_read lengths (mirror_parts chosen) w)
      → next_branch old ≡ Some (taken, mid) → Begins from.spare b → ReadsNode lengths chosen mid b from result new → Walks (branch_read step thens elses) old from result new
  branch_walks step thens elses chosen taken from b old mid new result k i g r es f around h =
      let a = branch_opens taken old mid i es f around h in
      let all = MoreEntries (forest.Branch taken (Holds a.inner a.fault)) a.rest in
      let meant : branch_read step thens elses (walk_of from es f) ≡ (parts_read lengths (mirror_parts chosen) (walk_of b a.inner a.fault) >>= λ inner. Ok (behind (walk_of from all f) a.rest inner)) =
      ap (λ x. branch_read step thens elses (walk_of from x f)) a.es_is ∙ ap (λ m. m >>= λ inner. Ok (behind (walk_of from all f) a.rest inner)) (k (begun (Holds a.inner a.fault) from.spare) ∙ sym (ap (λ w. parts_read lengths (mirror_parts chosen) w) (g a.inner a.fault))) in
      subst (λ m. Reaches m f around result new) (sym meant)
      (goes_behind (parts_read lengths (mirror_parts chosen) (walk_of b a.inner a.fault)) from all a.rest f around result new (r a.inner a.fault (AtNode (Holds a.rest f)) around a.new_is))

  -- ---- rows

  -- A Rows stands first.
  record FirstRows (count : ℕ) (es : Entries) (f : Option NodeFault) (around new : List Open) : Type 0 where
    pub nodes : Nodes
    pub rest : Entries
    pub es_is : es ≡ MoreEntries (forest.Rows nodes) rest
    pub count_is : count_nodes nodes ≡ count
    pub new_is : new ≡ AtRows nodes ∷ AtNode (Holds rest f) ∷ around

  rows_open : (count : ℕ) (old new : List Open) → next_rows old ≡ Some (count, new) → (es : Entries) (f : Option NodeFault) (around : List Open) → old ≡ AtNode (Holds es f) ∷ around → FirstRows count es f around new
  rows_open count old new i es f around h = go es (sym (ap next_rows h) ∙ i)
    where
      go : (es : Entries) → next_rows (AtNode (Holds es f) ∷ around) ≡ Some (count, new) → FirstRows count es f around new
      go NoEntries j = absurd cc
      go (MoreEntries (forest.Value u) rest) j = absurd cc
      go (MoreEntries (forest.Branch t n) rest) j = absurd cc
      go (MoreEntries (forest.Rows nodes) rest) j =
          let e : and_open (count_nodes nodes) (AtRows nodes ∷ AtNode (Holds rest f) ∷ around) ≡ and_open count new = cc in
          record { nodes = nodes; rest = rest; es_is = refl; count_is = ap (λ x. x.0) e; new_is = sym (ap (λ x. x.1) e) }

  no_rows : (old : List Open) → next_rows old ≡ None → InNode old (λ es f. first_rows es ≡ None)
  no_rows old i es f around h = go es (sym (ap next_rows h) ∙ i)
    where
      go : (es : Entries) → next_rows (AtNode (Holds es f) ∷ around) ≡ None → first_rows es ≡ None
      go NoEntries j = refl
      go (MoreEntries (forest.Value u) rest) j = refl
      go (MoreEntries (forest.Branch t n) rest) j = refl
      go (MoreEntries (forest.Rows ns) rest) j = absurd cc

  abbrev rows_read : (step kind : ℕ) → List part.Part → Walk → Result Walk ℕ
  rows_read step kind body w = demanded step w (first_rows w.left) (λ x. loop_read lengths step kind body x.0 (went w x.1))

  rows_walk : (step kind : ℕ) (body : List part.Part) (count : ℕ) (from : Progress) (old mid new : List Open) (result : Result Progress ℕ)
      → next_rows old ≡ Some (count, mid) → ReadsTurns lengths step kind body count mid from result new → Walks (rows_read step kind body) old from result new
  rows_walk step kind body count from old mid new result i r es f around h =
      let a = rows_open count old mid i es f around h in
      subst (λ x. Reaches (rows_read step kind body (walk_of from x f)) f around result new) (sym a.es_is) (r a.nodes a.rest f around a.count_is a.new_is)

  abbrev items_read : (step items : ℕ) → List part.Part → Walk → Result Walk ℕ
  items_read step items body w = demanded step w (first_rows w.left) (λ x. list_read lengths step items body x.0 (went w x.1))

  list_walk : (step items : ℕ) (body : List part.Part) (count : ℕ) (from : Progress) (old mid new : List Open) (result : Result Progress ℕ)
      → next_rows old ≡ Some (count, mid) → ReadsList lengths step items body count mid from result new → Walks (items_read step items body) old from result new
  list_walk step items body count from old mid new result i r es f around h =
      let a = rows_open count old mid i es f around h in
      subst (λ x. Reaches (items_read step items body (walk_of from x f)) f around result new) (sym a.es_is) (r a.nodes a.rest f around a.count_is a.new_is)

  -- ---- the forms of a part

  as_read : (read : Walk → Result Walk ℕ) (m n : Part) (old new : List Open) (from : Progress) (result : Result Progress ℕ) → m ≡ n → ((w : Walk) → part_read lengths n w ≡ read w) → Walks read old from result new → Walks (part_read lengths m) old from result new
  as_read read m n old new from result e k r es f around h =
      subst (λ x. Reaches x f around result new) (sym (ap (λ q. part_read lengths q (walk_of from es f)) e ∙ k (walk_of from es f))) (r es f around h)

  pub plain_part : (p : part.Part) (stmt : stmt.Stmt) (takes slice : List (ℕ × ℕ)) (old new : List Open) (from : Progress) (result : Result Progress ℕ) → p ≡ part_form.Plain stmt takes → slice ≡ takes
      → Walks (values_read slice) old from result new → Walks (part_read lengths (mirror_part p)) old from result new
  plain_part p stmt takes slice old new from result i s r = as_read (values_read takes) _ _ old new from result (ap mirror_part i ∙ form_Plain stmt takes) (λ w. refl) (subst (λ ts. Walks (values_read ts) old from result new) s r)

  pub pass_part : (p : part.Part) (step : ℕ) (now : List Open) (from q : Progress) → p ≡ part_form.Pass step → InNode now (λ es f. Ok (walk_of q es f) ≡ passed step (walk_of from es f)) → Walks (part_read lengths (mirror_part p)) now from (Ok q) now
  pass_part p step now from q i k = as_read (passed step) _ _ now now from (Ok q) (ap mirror_part i ∙ form_Pass step) (λ w. refl) (passes (passed step) from q now k)

  pub bind_part : (p : part.Part) (step : ℕ) (name : List ℕ) (kind : ℕ) (old new : List Open) (from : Progress) (result : Result Progress ℕ) → p ≡ part_form.Bind step name kind
      → Walks (value_read step kind) old from result new → Walks (part_read lengths (mirror_part p)) old from result new
  bind_part p step name kind old new from result i r = as_read (value_read step kind) _ _ old new from result (ap mirror_part i ∙ form_Bind step name kind) (λ w. refl) r

  pub both_part : (p : part.Part) (step at : ℕ) (name : List ℕ) (value : expr.Expr) (now : List Open) (from q : Progress) → p ≡ part_form.Both step at name value
      → InNode now (λ es f. Ok (walk_of q es f) ≡ passed step (walk_of from es f)) → Walks (part_read lengths (mirror_part p)) now from (Ok q) now
  both_part p step at name value now from q i k = as_read (passed step) _ _ now now from (Ok q) (ap mirror_part i ∙ form_Both step at name value) (λ w. refl) (passes (passed step) from q now k)

  branch_part : (p : part.Part) (step : ℕ) (thens elses : List part.Part) (old new : List Open) (from : Progress) (result : Result Progress ℕ) → p ≡ part_form.Branch step thens elses
      → Walks (branch_read step thens elses) old from result new → Walks (part_read lengths (mirror_part p)) old from result new
  branch_part p step thens elses old new from result i r = as_read (branch_read step thens elses) _ _ old new from result (ap mirror_part i ∙ form_Branch step thens elses) (λ w. refl) r

  pub yes_part : (p : part.Part) (step : ℕ) (thens elses slice : List part.Part) (taken : Bool) (from b : Progress) (old mid new : List Open) (result : Result Progress ℕ) → p ≡ part_form.Branch step thens elses → slice ≡ thens
      → taken ≡ true → next_branch old ≡ Some (taken, mid) → Begins from.spare b → ReadsNode lengths slice mid b from result new → Walks (part_read lengths (mirror_part p)) old from result new
  yes_part p step thens elses slice taken from b old mid new result i s t j g r =
      branch_part p step thens elses old new from result i (branch_walks step thens elses thens true from b old mid new result (λ w. refl) (j ∙ ap (λ c. Some (and_open c mid)) t) g (subst (λ ps. ReadsNode lengths ps mid b from result new) s r))

  pub no_part : (p : part.Part) (step : ℕ) (thens elses slice : List part.Part) (taken : Bool) (from b : Progress) (old mid new : List Open) (result : Result Progress ℕ) → p ≡ part_form.Branch step thens elses → slice ≡ elses
      → taken ≡ false → next_branch old ≡ Some (taken, mid) → Begins from.spare b → ReadsNode lengths slice mid b from result new → Walks (part_read lengths (mirror_part p)) old from result new
  no_part p step thens elses slice taken from b old mid new result i s t j g r =
      branch_part p step thens elses old new from result i (branch_walks step thens elses elses false from b old mid new result (λ w. refl) (j ∙ ap (λ c. Some (and_open c mid)) t) g (subst (λ ps. ReadsNode lengths ps mid b from result new) s r))

  pub branch_missed : (p : part.Part) (step : ℕ) (thens elses : List part.Part) (from : Progress) (old new : List Open) (result : Result Progress ℕ) → p ≡ part_form.Branch step thens elses → next_branch old ≡ None → new ≡ old
      → InNode new (λ es f. Gives (λ p. walk_of p es f) step_told result (raised_or step (walk_of from es f) (Err step))) → Walks (part_read lengths (mirror_part p)) old from result new
  branch_missed p step thens elses from old new result i j n k =
      branch_part p step thens elses old new from result i
      (λ es f around h. missed (first_branch es) _ step from es f around result new (no_branch old j es f around h) (n ∙ h) (k es f around (n ∙ h)))

  turns_part : (p : part.Part) (step : ℕ) (name : List ℕ) (kind : ℕ) (body : List part.Part) (old new : List Open) (from : Progress) (result : Result Progress ℕ) → p ≡ part_form.Turns step name kind body
      → Walks (rows_read step kind body) old from result new → Walks (part_read lengths (mirror_part p)) old from result new
  turns_part p step name kind body old new from result i r = as_read (rows_read step kind body) _ _ old new from result (ap mirror_part i ∙ form_Turns step name kind body) (λ w. refl) r

  pub rows_part : (p : part.Part) (step : ℕ) (name : List ℕ) (kind : ℕ) (body slice : List part.Part) (count : ℕ) (from : Progress) (old mid new : List Open) (result : Result Progress ℕ) → p ≡ part_form.Turns step name kind body → slice ≡ body
      → next_rows old ≡ Some (count, mid) → ReadsTurns lengths step kind slice count mid from result new → Walks (part_read lengths (mirror_part p)) old from result new
  rows_part p step name kind body slice count from old mid new result i s j r =
      turns_part p step name kind body old new from result i (rows_walk step kind body count from old mid new result j (subst (λ ps. ReadsTurns lengths step kind ps count mid from result new) s r))

  pub rows_missed : (p : part.Part) (step : ℕ) (name : List ℕ) (kind : ℕ) (body : List part.Part) (from : Progress) (old new : List Open) (result : Result Progress ℕ) → p ≡ part_form.Turns step name kind body → next_rows old ≡ None → new ≡ old
      → InNode new (λ es f. Gives (λ p. walk_of p es f) step_told result (raised_or step (walk_of from es f) (Err step))) → Walks (part_read lengths (mirror_part p)) old from result new
  rows_missed p step name kind body from old new result i j n k =
      turns_part p step name kind body old new from result i
      (λ es f around h. missed (first_rows es) _ step from es f around result new (no_rows old j es f around h) (n ∙ h) (k es f around (n ∙ h)))

  over_part : (p : part.Part) (step at : ℕ) (name list : List ℕ) (input : ℕ) (body : List part.Part) (old new : List Open) (from : Progress) (result : Result Progress ℕ)
      → p ≡ part_form.Over step at name list input body → Walks (items_read step (get_or lengths input 0) body) old from result new
      → Walks (part_read lengths (mirror_part p)) old from result new
  over_part p step at name list input body old new from result i r =
      as_read (items_read step (get_or lengths input 0) body) _ _ old new from result (ap mirror_part i ∙ form_Over step at name list input body) (λ w. refl) r

  pub list_part : (p : part.Part) (step at : ℕ) (name list : List ℕ) (input items : ℕ) (body slice : List part.Part) (count : ℕ) (from : Progress) (old mid new : List Open) (result : Result Progress ℕ)
      → p ≡ part_form.Over step at name list input body → items ≡ get_or lengths input 0 → slice ≡ body
      → next_rows old ≡ Some (count, mid) → ReadsList lengths step items slice count mid from result new → Walks (part_read lengths (mirror_part p)) old from result new
  list_part p step at name list input items body slice count from old mid new result i k s j r =
      over_part p step at name list input body old new from result i
      (list_walk step (get_or lengths input 0) body count from old mid new result j
      (subst (λ n. ReadsList lengths step n body count mid from result new) k (subst (λ ps. ReadsList lengths step items ps count mid from result new) s r)))

  pub list_missed : (p : part.Part) (step at : ℕ) (name list : List ℕ) (input : ℕ) (body : List part.Part) (from : Progress) (old new : List Open) (result : Result Progress ℕ)
      → p ≡ part_form.Over step at name list input body → next_rows old ≡ None → new ≡ old
      → InNode new (λ es f. Gives (λ p. walk_of p es f) step_told result (raised_or step (walk_of from es f) (Err step))) → Walks (part_read lengths (mirror_part p)) old from result new
  list_missed p step at name list input body from old new result i j n k =
      over_part p step at name list input body old new from result i
      (λ es f around h. missed (first_rows es) _ step from es f around result new (no_rows old j es f around h) (n ∙ h) (k es f around (n ∙ h)))

  -- ---- the turns of a list

  -- whether there are as many turns as items
  abbrev IsTold : Bool → (step items turns : ℕ) → List Open → Progress → Type 0
  IsTold told step items turns old from = InRows old (λ ns es f. count_nodes ns ≡ turns → told ≡ is_counted items ns (faults_at step (walk_of from es f)))

  judged_list : (told : Bool) (step items turns : ℕ) (body : List part.Part) (old : List Open) (from : Progress) → IsTold told step items turns old from
      → InRows old (λ ns es f. count_nodes ns ≡ turns → list_read lengths step items body ns (walk_of from es f) ≡ cond told (loop_read lengths step no_kind body ns (walk_of from es f)) (Err step))
  judged_list told step items turns body old from k ns es f around h n = ap (λ b. cond b (loop_read lengths step no_kind body ns (walk_of from es f)) (Err step)) (sym (k ns es f around h n))

  -- As many turns are read.
  pub list_walks : (told : Bool) (step items turns : ℕ) (body : List part.Part) (old new : List Open) (from : Progress) (result : Result Progress ℕ) → told ≡ true
      → IsTold told step items turns old from → ReadsTurns lengths step no_kind body turns old from result new → ReadsList lengths step items body turns old from result new
  list_walks told step items turns body old new from result t k r ns es f around n h =
      subst (λ m. Reaches m f around result new)
      (sym (judged_list told step items turns body old from k ns es f around h n ∙ ap (λ b. cond b (loop_read lengths step no_kind body ns (walk_of from es f)) (Err step)) t))
      (r ns es f around n h)

  -- Another number doesn't fit.
  pub list_stops : (told : Bool) (step items turns : ℕ) (body : List part.Part) (old new : List Open) (from : Progress) → told ≡ false
      → IsTold told step items turns old from → ReadsList lengths step items body turns old from (Err step) new
  list_stops told step items turns body old new from t k ns es f around n h =
      judged_list told step items turns body old from k ns es f around h n ∙ ap (λ b. cond b (loop_read lengths step no_kind body ns (walk_of from es f)) (Err step)) t

  -- ---- a turn

  -- the next node of the innermost Rows is open
  pub turn_opens : (n : Node) (ns : Nodes) (os old new : List Open) (r : Bool) → old ≡ AtRows (MoreNodes n ns) ∷ os → Moves next_turn old r new → new ≡ AtNode n ∷ AtRows ns ∷ os
  turn_opens n ns os old new true h m =
      let e : Some new ≡ Some (AtNode n ∷ AtRows ns ∷ os) = sym m ∙ ap next_turn h in
      cc
  turn_opens n ns os old new false h m =
      let e : None ≡ Some (AtNode n ∷ AtRows ns ∷ os) = sym m.0 ∙ ap next_turn h in
      absurd cc

  -- The turn's row isn't there.
  pub turn_stops : (step kind : ℕ) (body : List part.Part) (old mid new : List Open) (from b : Progress) (r : Bool) (d : ℕ) (result : Result Progress ℕ) → Moves next_turn old r mid → Begins from.spare b → Walks (row_read step kind) mid b (Err d) new → result ≡ Err d
      → ReadsTurn lengths step kind body old from result new
  turn_stops step kind body old mid new from b r d result m g w e (Holds es f) ns os h =
      subst (λ x. Closes (turn_read lengths step kind body (Holds es f) from) (AtRows ns ∷ os) x new) (sym e)
      (ap (λ x. x >>= λ row. parts_read lengths (mirror_parts body) row >>= λ w. Ok (after_node from w))
      (sym (ap (λ x. row_read step kind x) (g es f)) ∙ w es f (AtRows ns ∷ os) (turn_opens (Holds es f) ns os old mid r h m)))

  pub turn_walks : (step kind : ℕ) (body : List part.Part) (old mid row_open new : List Open) (from b row : Progress) (r : Bool) (result : Result Progress ℕ) → Moves next_turn old r mid → Begins from.spare b
      → Walks (row_read step kind) mid b (Ok row) row_open → ReadsNode lengths body row_open row from result new → ReadsTurn lengths step kind body old from result new
  turn_walks step kind body old mid row_open new from b row r result m g w k (Holds es f) ns os h =
      let a = w es f (AtRows ns ∷ os) (turn_opens (Holds es f) ns os old mid r h m) in
      let meant : turn_read lengths step kind body (Holds es f) from ≡ (parts_read lengths (mirror_parts body) (walk_of row a.0 f) >>= λ w. Ok (after_node from w)) =
      ap (λ x. x >>= λ row. parts_read lengths (mirror_parts body) row >>= λ w. Ok (after_node from w)) (sym (ap (λ x. row_read step kind x) (g es f)) ∙ a.2) in
      subst (λ x. Closes x (AtRows ns ∷ os) result new) (sym meant) (k a.0 f (AtRows ns) os a.1)

  -- ---- turns in a loop, as far as the walk has come

  -- So far, and the turns that are left, are all.
  abbrev pub TurnsSoFar : (step kind : ℕ) → List part.Part → (turns counter : ℕ) → List Open → Progress → List Open → Progress → Type 0
  TurnsSoFar step kind body turns counter old from new p =
      (ns : Nodes) (es : Entries) (f : Option NodeFault) (around : List Open) → count_nodes ns ≡ turns → old ≡ AtRows ns ∷ AtNode (Holds es f) ∷ around
      → (left : Nodes) × (count_nodes left ≡ turns - counter) × (new ≡ AtRows left ∷ AtNode (Holds es f) ∷ around) × (loop_read lengths step kind body left (walk_of p es f) ≡ loop_read lengths step kind body ns (walk_of from es f))

  -- There is a next turn.
  record Next (left : Nodes) (count : ℕ) : Type 0 where
    pub first : Node
    pub rest : Nodes
    pub is : left ≡ MoreNodes first rest
    pub counted : count_nodes rest ≡ count

  next_of : (left : Nodes) (turns counter : ℕ) → count_nodes left ≡ turns - counter → counter < turns → Next left (turns - (counter + 1))
  next_of NoNodes turns counter h l = absurd (omega arith)
  next_of (MoreNodes n ns) turns counter h l =
      let e : count_nodes ns ≡ turns - (counter + 1) = omega arith in
      record { first = n; rest = ns; is = refl; counted = e }

  -- behind a turn, the turns that are left
  turn_then : (step kind : ℕ) (body : List part.Part) (n : Node) (ns : Nodes) (p : Progress) (es : Entries) (f : Option NodeFault) → p.stopped ≡ false
      → loop_read lengths step kind body (MoreNodes n ns) (walk_of p es f) ≡ (turn_read lengths step kind body n p >>= λ q. loop_read lengths step kind body ns (walk_of q es f))
  turn_then step kind body n ns p es f h =
      ap (λ b. cond b (Ok (with_spare (walk_of p es f))) (row_read step kind (begun n p.spare) >>= λ row. parts_read lengths (mirror_parts body) row >>= λ inner. turns_read step kind (λ row. parts_read lengths (mirror_parts body) row) ns (behind (walk_of p es f) es inner)) >>= λ after. turns_done step after) h
      ∙ go (row_read step kind (begun n p.spare))
    where
      inner : (m : Result Walk ℕ) → (m >>= λ w. turns_read step kind (λ row. parts_read lengths (mirror_parts body) row) ns (behind (walk_of p es f) es w) >>= λ after. turns_done step after)
          ≡ (m >>= (λ w. Ok (after_node p w)) >>= λ q. loop_read lengths step kind body ns (walk_of q es f))
      inner (Ok w) = refl
      inner (Err d) = refl

      outer : (m : Result Walk ℕ) → ((m >>= λ w. turns_read step kind (λ row. parts_read lengths (mirror_parts body) row) ns (behind (walk_of p es f) es w)) >>= λ after. turns_done step after)
          ≡ (m >>= λ w. turns_read step kind (λ row. parts_read lengths (mirror_parts body) row) ns (behind (walk_of p es f) es w) >>= λ after. turns_done step after)
      outer (Ok w) = refl
      outer (Err d) = refl

      go : (m : Result Walk ℕ) → ((m >>= λ row. parts_read lengths (mirror_parts body) row >>= λ w. turns_read step kind (λ row. parts_read lengths (mirror_parts body) row) ns (behind (walk_of p es f) es w)) >>= λ after. turns_done step after)
          ≡ ((m >>= λ row. parts_read lengths (mirror_parts body) row >>= λ w. Ok (after_node p w)) >>= λ q. loop_read lengths step kind body ns (walk_of q es f))
      go (Ok row) = outer (parts_read lengths (mirror_parts body) row) ∙ inner (parts_read lengths (mirror_parts body) row)
      go (Err d) = refl

  -- One more turn is read, and then the others.
  pub turns_on : (step kind : ℕ) (body : List part.Part) (turns counter : ℕ) (old mid new : List Open) (from p q : Progress) → counter < turns → p.stopped ≡ false
      → TurnsSoFar step kind body turns counter old from mid p → ReadsTurn lengths step kind body mid p (Ok q) new → TurnsSoFar step kind body turns (counter + 1) old from new q
  turns_on step kind body turns counter old mid new from p q l s so_far r ns es f around k h =
      let a = so_far ns es f around k h in
      let n = next_of a.0 turns counter a.1 l in
      let t = r n.first n.rest (AtNode (Holds es f) ∷ around) (a.2 ∙ ap (λ x. AtRows x ∷ AtNode (Holds es f) ∷ around) n.is) in (
        n.rest,
        n.counted,
        t.1,
        sym (ap (λ x. loop_read lengths step kind body x (walk_of p es f)) n.is ∙ turn_then step kind body n.first n.rest p es f s ∙ ap (λ x. x >>= λ q. loop_read lengths step kind body n.rest (walk_of q es f)) t.0) ∙ a.3,
      )

  -- One more turn doesn't fit.
  pub turns_stop : (step kind : ℕ) (body : List part.Part) (turns counter : ℕ) (old mid new : List Open) (from p : Progress) (d : ℕ) (result : Result Progress ℕ) → counter < turns → p.stopped ≡ false
      → TurnsSoFar step kind body turns counter old from mid p → ReadsTurn lengths step kind body mid p (Err d) new → result ≡ Err d → ReadsTurns lengths step kind body turns old from result new
  turns_stop step kind body turns counter old mid new from p d result l s so_far r e ns es f around k h =
      let a = so_far ns es f around k h in
      let n = next_of a.0 turns counter a.1 l in
      let t = r n.first n.rest (AtNode (Holds es f) ∷ around) (a.2 ∙ ap (λ x. AtRows x ∷ AtNode (Holds es f) ∷ around) n.is) in
      subst (λ x. Reaches (loop_read lengths step kind body ns (walk_of from es f)) f around x new) (sym e)
      (sym a.3 ∙ ap (λ x. loop_read lengths step kind body x (walk_of p es f)) n.is ∙ turn_then step kind body n.first n.rest p es f s ∙ ap (λ x. x >>= λ q. loop_read lengths step kind body n.rest (walk_of q es f)) t)

  -- The walk stopped, and a turn is left over.
  pub turns_left : (step kind : ℕ) (body : List part.Part) (turns counter : ℕ) (old mid new : List Open) (from p q : Progress) (r : Bool) → counter < turns → p.stopped ≡ true
      → TurnsSoFar step kind body turns counter old from mid p → Moves closed mid r new → Spares p q → ReadsTurns lengths step kind body turns old from (Ok q) new
  turns_left step kind body turns counter old mid new from p q r l s so_far m g ns es f around k h =
      let a = so_far ns es f around k h in
      let n = next_of a.0 turns counter a.1 l in (
        es,
        closed_is (AtRows a.0) (AtNode (Holds es f)) around mid new r a.2 m,
        sym a.3 ∙ ap (λ x. loop_read lengths step kind body x (walk_of p es f)) n.is ∙ over n.first n.rest (walk_of p es f) s ∙ ap (λ w. Ok w) (sym (g es f)),
      )
    where
      over : (n : Node) (ns : Nodes) (w : Walk) → w.stopped ≡ true → loop_read lengths step kind body (MoreNodes n ns) w ≡ Ok (with_spare w)
      over n ns w e =
          ap (λ b. cond b (Ok (with_spare w)) (row_read step kind (begun n w.spare) >>= λ row. parts_read lengths (mirror_parts body) row >>= λ inner. turns_read step kind (λ row. parts_read lengths (mirror_parts body) row) ns (behind w w.left inner)) >>= λ after. turns_done step after) e
          ∙ ap (λ b. cond b (Ok (with_spare w)) (passed step (with_spare w))) e

  -- No turn is left.
  pub turns_end : (step kind : ℕ) (body : List part.Part) (turns counter : ℕ) (old mid new : List Open) (from p q : Progress) (r : Bool) → turns ≤ counter
      → TurnsSoFar step kind body turns counter old from mid p → Moves closed mid r new → InNode new (λ es f. Ok (walk_of q es f) ≡ turns_done step (walk_of p es f)) → ReadsTurns lengths step kind body turns old from (Ok q) new
  turns_end step kind body turns counter old mid new from p q r l so_far m g ns es f around k h =
      let a = so_far ns es f around k h in
      let open_is = closed_is (AtRows a.0) (AtNode (Holds es f)) around mid new r a.2 m in
      let z : count_nodes a.0 ≡ 0 = omega (arith, a.1) in
      (es, open_is, sym a.3 ∙ ap (λ x. loop_read lengths step kind body x (walk_of p es f)) (none a.0 z) ∙ sym (g es f around open_is))
    where
      none : (left : Nodes) → count_nodes left ≡ 0 → left ≡ NoNodes
      none NoNodes i = refl
      none (MoreNodes n ns) i = absurd (omega (arith, i))

  -- ---- a forest as a whole

  pub root_holds : (n : Node) → (es : Entries) × (f : Option NodeFault) × (n ≡ Holds es f)
  root_holds (Holds es f) = (es, f, refl)

  -- what is judged of a walk of the root that is alone
  pub root_fits : (ps : List part.Part) (root : Node) (now new : List Open) (b p : Progress) (left : Bool) → now ≡ AtNode root ∷ [] → Begins false b → Walks (parts_read lengths (mirror_parts ps)) now b (Ok p) new
      → InNode new (λ es f. left ≡ leaves (walk_of p es f)) → fits root (mirror_parts ps) lengths ≡ cond left (Err meaning.Extra) (Ok tt)
  unfolding fits
  root_fits ps root now new b p left h g w k =
      let r = root_holds root in
      let a = w r.0 r.1 [] (h ∙ ap (λ n. AtNode n ∷ []) r.2) in
      ap (λ n. judged (parts_read lengths (mirror_parts ps) (begun n false))) r.2 ∙ ap judged (sym (ap (λ w. parts_read lengths (mirror_parts ps) w) (g r.0 r.1)) ∙ a.2) ∙ ap (λ l. cond l (Err meaning.Extra) (Ok tt)) (sym (k a.0 r.1 [] a.1))

  pub root_unfit : (ps : List part.Part) (root : Node) (now new : List Open) (b : Progress) (step : ℕ) → now ≡ AtNode root ∷ [] → Begins false b → Walks (parts_read lengths (mirror_parts ps)) now b (Err step) new
      → fits root (mirror_parts ps) lengths ≡ Err (meaning.At step)
  unfolding fits
  root_unfit ps root now new b step h g w =
      let r = root_holds root in
      ap (λ n. judged (parts_read lengths (mirror_parts ps) (begun n false))) r.2
      ∙ ap judged (sym (ap (λ w. parts_read lengths (mirror_parts ps) w) (g r.0 r.1)) ∙ w r.0 r.1 [] (h ∙ ap (λ n. AtNode n ∷ []) r.2))

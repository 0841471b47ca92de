-- The divisions of batches, one after the other.
use Rattle.std.proofs.Common.{◌≡◌, ℕ, zero, suc, ◌+◌, ◌-◌, ◌<◌, ◌≤◌, arith, List, [], ◌∷◌, ◌++◌, map, length, length-append, drop, get_or, refl, sym, ap, ◌∙◌, subst, append_assoc, append-nil}
use Rattle.std.specs.Prelude.{Bool, true, false, cond, nat_lt, Some, Result, Ok, Err, slice_get}
use Rattle.std.proofs.lemmas.List.{map-append, drop_all}
use Rattle.std.proofs.lemmas.List.FromFn.{map-range_with_len_more}
use Rattle.std.specs.List.{range_with_len}
use Rattle.rb_trees.specs.Outcome.{◌>>=◌, Gives, Refuses}
use Rattle.rb_trees.specs.declared.refusals.Refusal.{Refusal}
use Rattle.rb_trees.specs.declared.refusals.Refusal.TheVariants.{TooManyInputs}
use Rattle.rb_trees.specs.declared.remainders.Split.{Split}
use Rattle.rb_trees.specs.mirror.Code.{Stmts, mirror_stmts}
use Rattle.rb_trees.specs.declared.declarations.Program as program
use Rattle.rb_trees.specs.mirror.Declarations.{Program, mirror_program}
use Rattle.rb_meaning_flow.specs.Outermost.{Outermost, program_batches}
use Rattle.rb_meaning_flow.specs.Scopes.{Scope, opened}
use Rattle.rb_scopes.specs.Seen.{newest}
use Rattle.rb_scopes.proofs.Opened.{newest_opened}
use Rattle.rb_meaning_split.specs.Division.{Division, checked_code, divided, divided_all, divided_before, division, first_refs, inputs_of, most_inputs}
use Rattle.rb_meaning_split.specs.Inputs.{list_numbers}
use Rattle.rb_meaning_split.specs.Refs.{Refs}
use Rattle.rb_flow.specs.Begun.{begun, begun_of}
use Rattle.rb_flow.specs.declared.outermost.OpenBatch.{OpenBatch}
use Rattle.rb_split.specs.Divided.{divided_from, division_with}
use Rattle.rb_split.specs.Drafts.{Drafted, block_drafted, fresh}
use Rattle.rb_split.proofs.Walked.{block_put, block_so}
use Rattle.rb_split.specs.Seen.{refusal_of, seen}
use Rattle.rb_split.specs.Views.{facts}
use Rattle.rb_split.specs.declared.stops.SplitStop.{SplitStop}
use Rattle.rb_split.specs.declared.stops.SplitStop.TheVariants as stops

-- the root of a batch: the last variable in scope where it begins
pub root_so : (b : OpenBatch) (o : Outermost) → begun_of b ≡ begun o → newest b.scope ≡ Some (o.root, o.at)
root_so b o e = ap (λ x. newest x.scope) e ∙ newest_opened o.outer o.at o.root o.block

by_test : (t : Bool) (r : Refusal) (n : ℕ) (m : Result Division Refusal) → cond t (Err r) m ≡ (cond t (Err r) (Ok n)) >>= (λ k. m)
by_test true r n m = refl
by_test false r n m = refl

-- a batch is divided from where it begins
pub divided_begun : (p : Program) (o : Outermost) → divided p o ≡ divided_from p o.at o.root (opened o.outer o.at o.root o.block) o.block
unfolding division
divided_begun p o =
    by_test (nat_lt most_inputs (length (inputs_of p o))) (TooManyInputs o.at (length (inputs_of p o))) (length (inputs_of p o))
    (checked_code (division_with p o.at o.root (opened o.outer o.at o.root o.block) o.block (inputs_of p o)))

pub divided_so : (p : Program) (b : OpenBatch) (o : Outermost) (root : List ℕ × ℕ) → begun_of b ≡ begun o → Some root ≡ newest b.scope
    → divided p o ≡ divided_from p root.1 root.0 b.scope (mirror_stmts b.block.now)
divided_so p b o root h is =
    let last : Some root ≡ Some (o.root, o.at) = is ∙ root_so b o h in
    let same : (o.root, o.at) ≡ root = cc in
    divided_begun p o ∙ ap (λ x. divided_from p o.at o.root x.scope x.block) (sym h)
    ∙ ap (λ v. divided_from p v.1 v.0 b.scope (mirror_stmts b.block.now)) same

-- the same answer to another definition that is equal
pub gives_by : {X Y : Type 0} (view : X → Y) (r : Result X SplitStop) (m m' : Result Y Refusal) → m' ≡ m → Gives view refusal_of r m → Gives view refusal_of r m'
gives_by view r m m' e h = subst (λ x. Gives view refusal_of r x) (sym e) h

-- a division, by what is drafted of its block
abbrev division_by : ℕ → List (List ℕ) → ℕ → List ℕ → Drafted → Division
division_by at inputs n lists d = record { at = at; inputs = inputs; script = record { inputs = n; lists = lists; body = d.steps }; remainder = d.parts }

pub division_so : (p : Program) (at n : ℕ) (root lists : List ℕ) (scope : Scope) (block : Stmts) (inputs slice : List (List ℕ)) (refs : Refs) (d : Drafted)
    → lists ≡ list_numbers scope 0 slice → d ≡ block_drafted p refs scope (fresh 0 0) block → refs ≡ first_refs root slice → slice ≡ inputs → n ≡ length inputs
    → division_by at inputs n lists d ≡ division_with p at root scope block inputs
division_so p at n root lists scope block inputs slice refs d el ed er es en =
    ap (λ x. division_by at inputs n x d) (el ∙ ap (list_numbers scope 0) es)
    ∙ ap (division_by at inputs n (list_numbers scope 0 inputs)) (ed ∙ block_so p refs scope (fresh 0 0) block ∙ ap (λ x. block_put p x scope (fresh 0 0) block) (er ∙ ap (first_refs root) es))
    ∙ ap (λ x. division_by at inputs x (list_numbers scope 0 inputs) (block_put p (first_refs root inputs) scope (fresh 0 0) block)) en

-- the batch at a place
pub begun_at : (bs : List OpenBatch) (os : List Outermost) (i : ℕ) (b : OpenBatch) → map begun_of bs ≡ map begun os → i < length bs → b ≡ get_or bs i b
    → (o : Outermost) × (drop i os ≡ o ∷ drop (suc i) os) × (begun_of b ≡ begun o)
begun_at [] os i b e l is = absurd (omega arith)
begun_at (x ∷ bs) [] i b e l is = absurd (cc e)
begun_at (x ∷ bs) (o ∷ os) zero b e l is =
    let head : begun_of x ≡ begun o = cc in
    (o, refl, ap begun_of is ∙ head)
begun_at (x ∷ bs) (o ∷ os) (suc i) b e l is =
    let tail : map begun_of bs ≡ map begun os = cc in
    begun_at bs os i b tail (omega arith) is

here_at : {A : Type 0} (xs : List A) (i : ℕ) (y : A) (ys : List A) → drop i xs ≡ y ∷ ys → slice_get xs i ≡ Some y
here_at [] zero y ys e = absurd (cc e)
here_at [] (suc i) y ys e = absurd (cc e)
here_at (x ∷ xs) zero y ys e = cc e
here_at (x ∷ xs) (suc i) y ys e = here_at xs i y ys e

pub numbered_begun : (bs : List OpenBatch) (os : List Outermost) (i : ℕ) (b : OpenBatch) (o : Outermost) → map begun_of bs ≡ map begun os → i < length bs → b ≡ get_or bs i b → slice_get os i ≡ Some o
    → begun_of b ≡ begun o
numbered_begun bs os i b o e l is at =
    let found = begun_at bs os i b e l is in
    let there : Some found.0 ≡ Some o = sym (here_at os i found.0 (drop (suc i) os) found.1) ∙ at in
    let same : found.0 ≡ o = cc in
    found.2 ∙ ap begun same

pub as_many : (bs : List OpenBatch) (os : List Outermost) → map begun_of bs ≡ map begun os → length bs ≡ length os
as_many [] [] e = refl
as_many [] (o ∷ os) e = absurd (cc e)
as_many (b ∷ bs) [] e = absurd (cc e)
as_many (b ∷ bs) (o ∷ os) e = let tail : map begun_of bs ≡ map begun os = cc in ap suc (as_many bs os tail)

-- divisions before the answer for the rest
abbrev pub in_front : List Division → Result (List Division) Refusal → Result (List Division) Refusal
in_front ds (Ok es) = Ok (ds ++ es)
in_front ds (Err r) = Err r

one_more : (ds : List Division) (d : Division) (r : Result (List Division) Refusal) → in_front ds (divided_before (Ok d) r) ≡ in_front (ds ++ d ∷ []) r
one_more ds d (Ok es) = ap Ok (sym (append_assoc ds (d ∷ []) es))
one_more ds d (Err r) = refl

-- batches of which the first were divided so
abbrev pub Leads : Program → List OpenBatch → List Split → ℕ → Type 0
Leads p batches splits i =
    (bs : List Outermost) → map begun_of batches ≡ map begun bs → divided_all p bs ≡ in_front (map seen splits) (divided_all p (drop i bs))

begins : (r : Result (List Division) Refusal) → r ≡ in_front [] r
begins (Ok ds) = refl
begins (Err r) = refl

pub leads_begin : (p : Program) (batches : List OpenBatch) → Leads p batches [] 0
leads_begin p batches bs e = begins (divided_all p bs)

-- what divides one batch
abbrev pub Divides : Program → OpenBatch → Result Split SplitStop → Type 0
Divides p b r = (o : Outermost) → begun_of b ≡ begun o → Gives seen refusal_of r (divided p o)

pub leads_more : (p : Program) (batches : List OpenBatch) (splits : List Split) (i : ℕ) (b : OpenBatch) (t : Result Split SplitStop) (s : Split) → i < length batches → b ≡ get_or batches i b
    → Leads p batches splits i → Divides p b t → t ≡ Ok s → Leads p batches (splits ++ s ∷ []) (i + 1)
leads_more p batches splits i b t s l is on h so bs e =
    let found = begun_at batches bs i b e l is in
    let one : divided p found.0 ≡ Ok (seen s) = subst (λ x. Gives seen refusal_of x (divided p found.0)) so (h found.0 found.2) in
    let next : suc i ≡ i + 1 = omega arith in
    on bs e ∙ ap (λ xs. in_front (map seen splits) (divided_all p xs)) found.1
    ∙ ap (λ x. in_front (map seen splits) (divided_before x (divided_all p (drop (suc i) bs)))) one
    ∙ one_more (map seen splits) (seen s) (divided_all p (drop (suc i) bs))
    ∙ ap (λ ds. in_front ds (divided_all p (drop (suc i) bs))) (sym (map-append seen splits (s ∷ [])))
    ∙ ap (λ n. in_front (map seen (splits ++ s ∷ [])) (divided_all p (drop n bs))) next

refused_first : (x : SplitStop) (ds : List Division) (m : Result Division Refusal) (rest : Result (List Division) Refusal) → Refuses (refusal_of x) m → Refuses (refusal_of x) (in_front ds (divided_before m rest))
refused_first (stops.Refused r) ds m rest h = ap (λ y. in_front ds (divided_before y rest)) h
refused_first stops.Memory ds m rest h = tt

pub leads_cut : (p : Program) (batches : List OpenBatch) (splits : List Split) (i : ℕ) (b : OpenBatch) (t : Result Split SplitStop) (x : SplitStop) → i < length batches → b ≡ get_or batches i b
    → Leads p batches splits i → Divides p b t → t ≡ Err x → (bs : List Outermost) → map begun_of batches ≡ map begun bs → Refuses (refusal_of x) (divided_all p bs)
leads_cut p batches splits i b t x l is on h so bs e =
    let found = begun_at batches bs i b e l is in
    let one : Refuses (refusal_of x) (divided p found.0) = subst (λ y. Gives seen refusal_of y (divided p found.0)) so (h found.0 found.2) in
    subst (λ m. Refuses (refusal_of x) m) (sym (on bs e ∙ ap (λ xs. in_front (map seen splits) (divided_all p xs)) found.1))
    (refused_first x (map seen splits) (divided p found.0) (divided_all p (drop (suc i) bs)) one)

pub leads_end : (p : Program) (batches : List OpenBatch) (splits : List Split) (i : ℕ) → length batches ≤ i → Leads p batches splits i
    → (bs : List Outermost) → map begun_of batches ≡ map begun bs → divided_all p bs ≡ Ok (map seen splits)
leads_end p batches splits i l on bs e =
    let many = as_many batches bs e in
    on bs e ∙ ap (λ xs. in_front (map seen splits) (divided_all p xs)) (drop_all i bs (omega arith)) ∙ ap Ok (append-nil (map seen splits))

-- the batch at a place was divided
pub split_so : (r : Result Split SplitStop) (p q : program.Program) (bs slice : List OpenBatch) (i : ℕ) (x : OpenBatch) (b : Outermost) → q ≡ p
    → map begun_of bs ≡ map begun (program_batches (facts q) (mirror_program q)) → slice ≡ bs → x ≡ get_or slice i x → i < length (program_batches (facts p) (mirror_program p))
    → slice_get (program_batches (facts p) (mirror_program p)) i ≡ Some b → Divides (mirror_program q) x r → Gives seen refusal_of r (divided (mirror_program p) b)
split_so r p q bs slice i x b same collected e is l at h =
    let os : List Outermost = program_batches (facts p) (mirror_program p) in
    let got : map begun_of bs ≡ map begun os = collected ∙ ap (λ y. map begun (program_batches (facts y) (mirror_program y))) same in
    let many : length bs ≡ length os = as_many bs os got in
    let here : x ≡ get_or bs i x = is ∙ ap (λ s. get_or s i x) e in
    let found : begun_of x ≡ begun b = numbered_begun bs os i x b got (omega arith) here at in
    subst (λ y. Gives seen refusal_of r (divided (mirror_program y) b)) same (h b found)

-- one more division, behind the others
pub leads_on : (p : Program) (batches : List OpenBatch) (splits now : List Split) (i : ℕ) (b : OpenBatch) (t : Result Split SplitStop) (s : Split) → i < length batches → b ≡ get_or batches i b
    → Leads p batches splits i → Divides p b t → t ≡ Ok s → now ≡ splits ++ s ∷ [] → Leads p batches now (i + 1)
leads_on p batches splits now i b t s l is on h so e = subst (λ x. Leads p batches x (i + 1)) (sym e) (leads_more p batches splits i b t s l is on h so)

pub leads_refused : (r : Result (List Split) SplitStop) (p : Program) (batches : List OpenBatch) (splits : List Split) (i : ℕ) (b : OpenBatch) (t : Result Split SplitStop) (x : SplitStop) → i < length batches → b ≡ get_or batches i b
    → Leads p batches splits i → Divides p b t → t ≡ Err x → r ≡ Err x → (bs : List Outermost) → map begun_of batches ≡ map begun bs → Gives (λ ss. map seen ss) refusal_of r (divided_all p bs)
leads_refused r p batches splits i b t x l is on h so end bs e =
    subst (λ y. Gives (λ ss. map seen ss) refusal_of y (divided_all p bs)) (sym end) (leads_cut p batches splits i b t x l is on h so bs e)

same_list : (xs : List ℕ) → map (λ x. x) xs ≡ xs
same_list [] = refl
same_list (x ∷ xs) = ap (λ ys. x ∷ ys) (same_list xs)

range_more : (n : ℕ) → range_with_len 0 (n + 1) ≡ range_with_len 0 n ++ n ∷ []
range_more n =
    sym (same_list (range_with_len 0 (n + 1))) ∙ map-range_with_len_more (λ x. x) 0 n n (omega arith) ∙ ap (λ xs. xs ++ n ∷ []) (same_list (range_with_len 0 n))

-- one more number
pub numbered_more : (splits now : List Split) (s : Split) (n : ℕ) → map (λ s. s.batch) splits ≡ range_with_len 0 (length splits) → s.batch ≡ n → n ≡ length splits → now ≡ splits ++ s ∷ []
    → map (λ s. s.batch) now ≡ range_with_len 0 (length now)
numbered_more splits now s n so es en e =
    let long : length (splits ++ s ∷ []) ≡ length splits + 1 = length-append splits (s ∷ []) in
    ap (map (λ s. s.batch)) e ∙ map-append (λ s. s.batch) splits (s ∷ []) ∙ ap (λ xs. xs ++ s.batch ∷ []) so ∙ ap (λ m. range_with_len 0 (length splits) ++ m ∷ []) (es ∙ en)
    ∙ sym (range_more (length splits)) ∙ ap (range_with_len 0) (sym long) ∙ ap (λ xs. range_with_len 0 (length xs)) (sym e)

pub count_more : (splits now : List Split) (s : Split) (n m : ℕ) → n ≡ length splits → m ≡ suc n → now ≡ splits ++ s ∷ [] → m ≡ length now
count_more splits now s n m en em e =
    let long : length (splits ++ s ∷ []) ≡ length splits + 1 = length-append splits (s ∷ []) in
    let all : length now ≡ length (splits ++ s ∷ []) = ap length e in
    omega arith

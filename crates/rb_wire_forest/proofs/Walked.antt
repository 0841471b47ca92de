-- What walks of entries and parts stand on.
use Rattle.std.proofs.Common.{◌≡◌, ◌≤◌, ℕ, List, [], ◌∷◌, true, cond, length, get_or, Ok, Some, refl, ap, sym, ◌∙◌, arith}
use Rattle.rb_trees.specs.declared.forests.Node as node
use Rattle.rb_trees.specs.declared.forests.Entry as entry
use Rattle.rb_trees.specs.declared.remainders.Part as part
use Rattle.rb_trees.specs.declared.remainders.Part.TheVariants as part_form
use Rattle.rb_trees.specs.mirror.Forests.{Nodes, Entries, mirror_entries, mirror_nodes}
use Rattle.rb_trees.specs.mirror.Remainders.{mirror_part, mirror_parts}
use Rattle.rb_trees.proofs.mirror.Parts.{form_Turns, form_Over}
use Rattle.rb_meaning_bytes.specs.Fits.{Walk, are_left, first_rows, demanded, went, values_read, value_read, part_read, parts_read, turns_read, turns_done, counted, no_kind}
use Rattle.rb_wire_forest.specs.Walks.{turns_walked, list_walked}
use Rattle.rb_trees.specs.Outcome.{◌>>=◌}
use Rattle.std.proofs.lemmas.Bool.Decides.{nat_tests}
use Rattle.std.proofs.lemmas.Grind.{common_steps}
use Rattle.rb_trees.proofs.mirror.Nodes.{nodes as mirrored}
use Rattle.rb_trees.proofs.mirror.Parts.{parts as mirrored_parts}
use Rattle.rb_trees.specs.declared.values.Value.TheViews.{the_lemmas}

-- A walk that stopped takes no more values.
pub values_stopped : (takes : List (ℕ × ℕ)) (w : Walk) → w.stopped ≡ true → values_read takes w ≡ Ok w
values_stopped [] w h = refl
values_stopped (take ∷ takes) w h = ap (λ b. cond b (Ok w) (value_read take.0 take.1 w >>= λ after. values_read takes after)) h

pub some_left : (es : List entry.Entry) → 1 ≤ length es → true ≡ are_left (mirror_entries es)
some_left [] h = absurd (omega arith)
some_left (e ∷ es) h = refl

abbrev pub rows_and : Nodes → Entries → Nodes × Entries
rows_and ns es = (ns, es)

-- What the code's walk of a loop gives is what the part gives.
pub turns_same : (lengths : List ℕ) (p : part.Part) (step kind : ℕ) (name : List ℕ) (body slice : List part.Part) (ns : List node.Node) (rest : List entry.Entry) (w behind : Walk)
    → p ≡ part_form.Turns step name kind body → slice ≡ body → Some (rows_and (mirror_nodes ns) (mirror_entries rest)) ≡ first_rows w.left → behind ≡ went w (mirror_entries rest)
    → turns_walked lengths step kind slice ns behind ≡ part_read lengths (mirror_part p) w
turns_same lengths p step kind name body slice ns rest w behind h i j k =
    ap (λ b. turns_walked lengths step kind b ns behind) i ∙ ap (λ v. turns_walked lengths step kind body ns v) k
    ∙ ap (λ o. demanded step w o (λ x. turns_read step kind (λ inner. parts_read lengths (mirror_parts body) inner) x.0 (went w x.1) >>= λ after. turns_done step after)) j
    ∙ sym (ap (λ q. part_read lengths (mirror_part q) w) h ∙ ap (λ m. part_read lengths m w) (form_Turns step name kind body))

pub list_same : (lengths : List ℕ) (p : part.Part) (step at : ℕ) (name list : List ℕ) (input items : ℕ) (body slice : List part.Part) (ns : List node.Node) (rest : List entry.Entry) (w behind : Walk)
    → p ≡ part_form.Over step at name list input body → slice ≡ body → items ≡ get_or lengths input 0
    → Some (rows_and (mirror_nodes ns) (mirror_entries rest)) ≡ first_rows w.left → behind ≡ went w (mirror_entries rest)
    → list_walked lengths step items slice ns behind ≡ part_read lengths (mirror_part p) w
list_same lengths p step at name list input items body slice ns rest w behind h i n j k =
    ap (λ b. list_walked lengths step items b ns behind) i ∙ ap (λ m. list_walked lengths step m body ns behind) n ∙ ap (λ v. list_walked lengths step (get_or lengths input 0) body ns v) k
    ∙ ap (λ o. demanded step w o (λ x. counted step (get_or lengths input 0) x.0 (went w x.1) (turns_read step no_kind (λ inner. parts_read lengths (mirror_parts body) inner) x.0 (went w x.1) >>= λ after. turns_done step after))) j
    ∙ sym (ap (λ q. part_read lengths (mirror_part q) w) h ∙ ap (λ m. part_read lengths m w) (form_Over step at name list input body))

pub ruleset nodes = (mirrored, common_steps)

pub ruleset values = (the_lemmas, nat_tests, common_steps)

pub ruleset entries = (mirrored, nat_tests, common_steps)

pub ruleset parts = (mirrored_parts, common_steps)

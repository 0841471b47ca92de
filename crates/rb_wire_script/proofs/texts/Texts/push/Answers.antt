use Rattle.std.proofs.Common.{◌≡◌, ◌++◌, ◌∷◌, [], ℕ, List, length, false, Some, sym, subst, ap, ◌∙◌}
use Rattle.std.specs.BTreeMap.{UpdatesBy}
use Rattle.std.specs.Cmp.Lexicographic.{slice_cmp}
use Rattle.std.specs.Ordering.{nat_cmp}
use Rattle.rb_meaning_bytes.specs.formats.Pools.{is_among}
use Rattle.rb_wire_script.specs.Places.{Placed}
use Rattle.rb_wire_script.proofs.Placing.{placed_more}
use Rattle.rb_wire_script.proofs.texts.Texts.push.Goals as goal

pub invariant_of-self-in-Ok : goal.invariant_of-self-in-Ok
invariant_of-self-in-Ok c =
    let texts : List (List ℕ) = c.self.inside.texts in
    let absent : is_among c.args.key.now texts ≡ false = subst (λ ws. is_among c.args.key.now ws ≡ false) (sym c.self.view_is) c.requires.new in
    let updates : UpdatesBy (λ x y. slice_cmp nat_cmp x.now y.now) (λ k. slice_cmp nat_cmp c.args.key.now k.now) c.self.inside.places c.insert.new.self (Some (length texts)) =
    subst (λ n. UpdatesBy (λ x y. slice_cmp nat_cmp x.now y.now) (λ k. slice_cmp nat_cmp c.args.key.now k.now) c.self.inside.places c.insert.new.self (Some n)) c.len-place.ensures c.in-Ok.ensures.updates in
    subst (λ ws. Placed c.insert.new.self ws) (sym (c.in_ok-push.ensures.ok ∙ ap (λ t. texts ++ t ∷ []) (sym c.requires.key)))
    (placed_more c.args.key.now texts c.self.inside.places c.insert.new.self absent c.self.invariant updates)

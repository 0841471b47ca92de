-- Each step of a script has a byte.
use Rattle.std.proofs.Common.{◌≤◌, ◌+◌, ℕ, List, ◌∷◌, ◌++◌, length, length-append, arith}
use Rattle.rb_trees.specs.declared.versions.Version.{Version}
use Rattle.rb_trees.specs.mirror.Scripts as tree
use Rattle.rb_trees.specs.mirror.Scripts.{Step, Steps, Script}
use Rattle.rb_trees.specs.declared.values.Value.{Value}
use Rattle.rb_meaning_bytes.specs.formats.Fields.{truth}
use Rattle.rb_meaning_bytes.specs.formats.ScriptBytes.{natural_bytes, expr_bytes, step_bytes, steps_bytes, block_bytes, count_steps, step_weight, steps_weight, pool_bytes, inputs_bytes, pool_of, script_bytes}

-- parts within a list
within_if : (x a d b : List ℕ) → length a + length b ≤ length (x ++ a ++ d ++ b)
within_if x a d b = omega (arith, length-append x a, length-append (x ++ a) d, length-append (x ++ a ++ d) b)

within_last : (x a : List ℕ) → length a ≤ length (x ++ a)
within_last x a = omega (arith, length-append x a)

module _ (version : Version) (texts : List (List ℕ)) where
  mutual
    step_weighed : (s : Step) → step_weight s ≤ length (step_bytes version texts s)
    step_weighed (tree.Do id at e) = omega arith
    step_weighed (tree.Keep id at e) = omega arith
    step_weighed (tree.Let id at var keep e) = omega arith
    step_weighed (tree.If id at e a b) =
        let h = within_if (natural_bytes version id ++ natural_bytes version at ++ expr_bytes version texts e ++ natural_bytes version (count_steps a)) (steps_bytes version texts a)
        (natural_bytes version (count_steps b)) (steps_bytes version texts b) in
        omega (arith, h, steps_weighed a, steps_weighed b)
    step_weighed (tree.Each id at var keep e a) =
        let h = within_last (natural_bytes version id ++ natural_bytes version at ++ natural_bytes version var ++ truth keep ++ expr_bytes version texts e ++ natural_bytes version (count_steps a)) (steps_bytes version texts a) in
        omega (arith, h, steps_weighed a)
    step_weighed (tree.Over id at var input a) =
        let h = within_last (natural_bytes version id ++ natural_bytes version at ++ natural_bytes version var ++ input ∷ natural_bytes version (count_steps a)) (steps_bytes version texts a) in
        omega (arith, h, steps_weighed a)

    steps_weighed : (ss : Steps) → steps_weight ss ≤ length (steps_bytes version texts ss)
    steps_weighed tree.NoSteps = omega arith
    steps_weighed (tree.MoreSteps s ss) = omega (arith, length-append (step_bytes version texts s) (steps_bytes version texts ss), step_weighed s, steps_weighed ss)

-- So a message has no fewer bytes than its script has steps.
pub script_weighed : (version : Version) (s : Script) (values : List Value) → steps_weight s.body ≤ length (script_bytes version s values)
script_weighed version s values =
    let texts = pool_of version s values in
    let block = within_last (natural_bytes version (count_steps s.body)) (steps_bytes version texts s.body) in
    let whole = within_last (pool_bytes version texts ++ s.inputs ∷ inputs_bytes version texts values) (block_bytes version texts s.body) in
    omega (arith, block, whole, steps_weighed version texts s.body)

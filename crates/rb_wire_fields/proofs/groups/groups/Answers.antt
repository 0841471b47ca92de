-- The groups of a number, one by one.
use Rattle.std.proofs.Common.{arith, rules, sym, ap, subst, ◌∙◌, ◌*◌, ◌-◌, length, take, drop}
use Rattle.rb_wire_fields.proofs.Grouping.{SoFar, begins, goes_on, unit_fits, cut_so, wrong_so, end_so, end_below, ended, parted, no_bytes}
use Rattle.rb_wire_fields.proofs.groups.groups.Goals as goal

pub groups-init : goal.groups-init
groups-init c = begins c.args.last c.args.more c.args.bytes.now

pub returns-in_default-clause-gives : goal.returns-in_default-clause-gives
returns-in_default-clause-gives c = cut_so c.groups.invariant (no_bytes c.groups.rest.now c.in_default.len_below)

pub returns-then-not-may_end-clause-gives : goal.returns-then-not-may_end-clause-gives
returns-then-not-may_end-clause-gives c =
    end_so _ _ c.groups.invariant (parted c.groups.rest.now c.in-len1-up.len_at_least) c.if-group-lt128.true ∙ ended _ _ (sym c.may_end.ensures ∙ c.if-not-may_end.true)

pub overflow_mul-result : goal.overflow_mul-result
overflow_mul-result c =
    let e = ap (λ n. n * c.groups.unit) c.from.ensures in
    let d = end_below _ c.groups.invariant c.requires.some c.if-group-lt128.true (sym c.may_end.ensures ∙ c.if-not-may_end.false) in
    omega (arith, e, d, c.requires.bits)

pub overflow_add-result : goal.overflow_add-result
overflow_add-result c =
    let e = ap (λ n. n * c.groups.unit) c.from.ensures in
    let d = end_below _ c.groups.invariant c.requires.some c.if-group-lt128.true (sym c.may_end.ensures ∙ c.if-not-may_end.false) in
    omega (arith, e, d, c.requires.bits)

pub returns-then-group-lt128-clause-gives : goal.returns-then-group-lt128-clause-gives
returns-then-group-lt128-clause-gives c =
    rw c.from.ensures (end_so _ _ c.groups.invariant (parted c.groups.rest.now c.in-len1-up.len_at_least) c.if-group-lt128.true ∙ ended _ _ (sym c.may_end.ensures ∙ c.if-not-may_end.false))

pub returns-then-group-lt128-clause-below : goal.returns-then-group-lt128-clause-below
returns-then-group-lt128-clause-below c =
    rw c.from.ensures (end_below _ c.groups.invariant c.requires.some c.if-group-lt128.true (sym c.may_end.ensures ∙ c.if-not-may_end.false))

pub returns-then-left-eq0-clause-gives : goal.returns-then-left-eq0-clause-gives
returns-then-left-eq0-clause-gives c =
    wrong_so _ _ c.groups.invariant (parted c.groups.rest.now c.in-len1-up.len_at_least) c.if-left-eq0.true (omega (arith, c.if-group-lt128.false, c.requires.last))

pub overflow_mul-sum : goal.overflow_mul-sum
overflow_mul-sum c =
    let e = ap (λ n. n * c.groups.unit) c.from-in-groups.ensures in
    let d = (goes_on _ _ c.groups.invariant (parted c.groups.rest.now c.in-len1-up.len_at_least) (omega (arith, c.if-left-eq0.false)) (omega (arith, c.if-group-lt128.false)) (search rules)).small in
    let f = unit_fits c.groups.invariant c.requires.some c.requires.bits (omega (arith, c.if-left-eq0.false)) in
    omega (arith, e, d, f)

pub overflow_add-sum : goal.overflow_add-sum
overflow_add-sum c =
    let e = ap (λ n. n * c.groups.unit) c.from-in-groups.ensures in
    let d = (goes_on _ _ c.groups.invariant (parted c.groups.rest.now c.in-len1-up.len_at_least) (omega (arith, c.if-left-eq0.false)) (omega (arith, c.if-group-lt128.false)) (search rules)).small in
    let f = unit_fits c.groups.invariant c.requires.some c.requires.bits (omega (arith, c.if-left-eq0.false)) in
    omega (arith, e, d, f)

pub overflow_mul-unit : goal.overflow_mul-unit
overflow_mul-unit c =
    let f = unit_fits c.groups.invariant c.requires.some c.requires.bits (omega (arith, c.if-left-eq0.false)) in
    omega (arith, f)

pub groups-preserved : goal.groups-preserved
groups-preserved c =
    let e = ap (λ n. n * c.groups.unit) c.from-in-groups.ensures in
    subst (λ n. SoFar c.args.last c.args.more c.args.bytes.now n (c.groups.unit * 128) (c.groups.left - 1) (take (length c.groups.rest.now - 1) (drop 1 c.groups.rest.now))) (omega (arith, e))
    (goes_on _ _ c.groups.invariant (parted c.groups.rest.now c.in-len1-up.len_at_least) (omega (arith, c.if-left-eq0.false)) (omega (arith, c.if-group-lt128.false)) (search rules))

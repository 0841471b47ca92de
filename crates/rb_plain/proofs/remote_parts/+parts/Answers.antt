-- The remote expressions in each form of an expression.
use Rattle.std.proofs.Common.{rules, arith, refl, ap}
use Rattle.rb_engine.proofs.Forms.{lit_form, name_form, this_form, unary_form, binary_form, field_form, call_form, index_form, new_form, items_form, taken_form}
use Rattle.rb_plain.proofs.Looked.{both_none, leads_cut, leads_more, of_form, one_and_all, sent_none, two}
use Rattle.rb_plain.proofs.Replies.{given}
use Rattle.rb_plain.proofs.Weight.{expr_in, expr_weight, weight_of, weights_of}
use Rattle.rb_plain.proofs.remote_parts.+parts.Goals as goal

pub perform_both-returns-in_err-perform_in : goal.perform_both-returns-in_err-perform_in
perform_both-returns-in_err-perform_in t c = both_none c.args.scope.now c.args.a.now c.args.b.now c.args.frame.now c.perform_in.ensures c.in_err-perform_in.was (search rules)

pub perform_both-returns : goal.perform_both-returns
perform_both-returns t c = two c.args.scope.now c.args.a.now c.args.b.now c.args.frame.now c.perform_in.ensures c.in_ok-perform_in.was c.perform_in-2.ensures

pub perform_in_all-perform_in-requires : goal.perform_in_all-perform_in-requires
perform_in_all-perform_in-requires t c = let w = expr_in c.args.exprs.now c.exprs.expr-index c.expr-item.result (omega arith) in let e = ap weight_of c.expr-item.is in omega arith

pub perform_in_all-returns-in_err-perform_in : goal.perform_in_all-returns-in_err-perform_in
perform_in_all-returns-in_err-perform_in t c = leads_cut c.expr-item.result (omega arith) c.expr-item.is c.exprs.invariant c.perform_in.ensures c.in_err-perform_in.was (search rules)

pub perform_in_all-exprs-preserved : goal.perform_in_all-exprs-preserved
perform_in_all-exprs-preserved t c = leads_more c.expr-item.result (omega arith) c.expr-item.is c.exprs.invariant c.perform_in.ensures c.in_ok-perform_in.was

pub perform_parts-perform_in-requires : goal.perform_parts-perform_in-requires
perform_parts-perform_in-requires t c = let w = ap expr_weight (unary_form c.args.expr.now c.in-Unary.a c.in-Unary.is) in let e = ap weight_of c.get.ensures in omega arith

pub perform_parts-perform_in-requires-in-Field : goal.perform_parts-perform_in-requires-in-Field
perform_parts-perform_in-requires-in-Field t c = let w = ap expr_weight (field_form c.args.expr.now c.in-Field.a c.in-Field.is) in let e = ap weight_of c.get-in-Field.ensures in omega arith

pub perform_parts-perform_both-requires : goal.perform_parts-perform_both-requires
perform_parts-perform_both-requires t c =
    let w = ap expr_weight (binary_form c.args.expr.now c.in-Binary.a c.in-Binary.b c.in-Binary.is) in
    let e = ap weight_of c.get-in-Binary.ensures in
    let f = ap weight_of c.get-in-Binary-2.ensures in
    omega arith

pub perform_parts-perform_both-requires-in-Index : goal.perform_parts-perform_both-requires-in-Index
perform_parts-perform_both-requires-in-Index t c =
    let w = ap expr_weight (index_form c.args.expr.now c.in-Index.a c.in-Index.b c.in-Index.is) in
    let e = ap weight_of c.get-in-Index.ensures in
    let f = ap weight_of c.get-in-Index-2.ensures in
    omega arith

pub perform_parts-perform_sent-requires : goal.perform_parts-perform_sent-requires
perform_parts-perform_sent-requires t c = let w = ap expr_weight (call_form c.args.expr.now c.in-Call.a c.in-Call.args c.in-Call.is) in let e = ap weight_of c.get-in-Call.ensures in omega arith

pub perform_parts-perform_in_all-requires : goal.perform_parts-perform_in_all-requires
perform_parts-perform_in_all-requires t c = let w = ap expr_weight (new_form c.args.expr.now c.in-New.args c.in-New.is) in let e = ap weights_of c.as_slice.ensures in omega arith

pub perform_parts-perform_in_all-requires-in-Items : goal.perform_parts-perform_in_all-requires-in-Items
perform_parts-perform_in_all-requires-in-Items t c = let w = ap expr_weight (items_form c.args.expr.now _ c.in-Items.args c.in-Items.is) in let e = ap weights_of c.as_slice-in-Items.ensures in omega arith

pub perform_parts-returns-in-Lit : goal.perform_parts-returns-in-Lit
perform_parts-returns-in-Lit t c = of_form c.args.world.now c.args.scope.now c.args.expr.now c.args.frame.now _ (lit_form c.args.expr.now c.in-Lit.is) (given refl refl)

pub perform_parts-returns-in-Name : goal.perform_parts-returns-in-Name
perform_parts-returns-in-Name t c = of_form c.args.world.now c.args.scope.now c.args.expr.now c.args.frame.now _ (name_form c.args.expr.now c.in-Name.is) (given refl refl)

pub perform_parts-returns-in-This : goal.perform_parts-returns-in-This
perform_parts-returns-in-This t c = of_form c.args.world.now c.args.scope.now c.args.expr.now c.args.frame.now _ (this_form c.args.expr.now c.in-This.is) (given refl refl)

pub perform_parts-returns-in-Taken : goal.perform_parts-returns-in-Taken
perform_parts-returns-in-Taken t c = of_form c.args.world.now c.args.scope.now c.args.expr.now c.args.frame.now _ (taken_form c.args.expr.now c.in-Taken.is) (given refl refl)

pub perform_parts-returns-in-Unary : goal.perform_parts-returns-in-Unary
perform_parts-returns-in-Unary t c =
    of_form c.args.world.now c.args.scope.now c.args.expr.now c.args.frame.now _ (unary_form c.args.expr.now c.in-Unary.a c.in-Unary.is) (rw c.get.ensures at c.perform_in.ensures)

pub perform_parts-returns-in-Field : goal.perform_parts-returns-in-Field
perform_parts-returns-in-Field t c =
    of_form c.args.world.now c.args.scope.now c.args.expr.now c.args.frame.now _ (field_form c.args.expr.now c.in-Field.a c.in-Field.is) (rw c.get-in-Field.ensures at c.perform_in-in-Field.ensures)

pub perform_parts-returns-in-Binary : goal.perform_parts-returns-in-Binary
perform_parts-returns-in-Binary t c =
    of_form c.args.world.now c.args.scope.now c.args.expr.now c.args.frame.now _ (binary_form c.args.expr.now c.in-Binary.a c.in-Binary.b c.in-Binary.is)
    (rw (c.get-in-Binary.ensures, c.get-in-Binary-2.ensures) at c.perform_both.ensures)

pub perform_parts-returns-in-Index : goal.perform_parts-returns-in-Index
perform_parts-returns-in-Index t c =
    of_form c.args.world.now c.args.scope.now c.args.expr.now c.args.frame.now _ (index_form c.args.expr.now c.in-Index.a c.in-Index.b c.in-Index.is)
    (rw (c.get-in-Index.ensures, c.get-in-Index-2.ensures) at c.perform_both-in-Index.ensures)

pub perform_parts-returns-in-Call : goal.perform_parts-returns-in-Call
perform_parts-returns-in-Call t c =
    of_form c.args.world.now c.args.scope.now c.args.expr.now c.args.frame.now _ (call_form c.args.expr.now c.in-Call.a c.in-Call.args c.in-Call.is) (rw c.get-in-Call.ensures at c.perform_sent.ensures)

pub perform_parts-returns-in-New : goal.perform_parts-returns-in-New
perform_parts-returns-in-New t c =
    of_form c.args.world.now c.args.scope.now c.args.expr.now c.args.frame.now _ (new_form c.args.expr.now c.in-New.args c.in-New.is) (rw c.as_slice.ensures at c.perform_in_all.ensures)

pub perform_parts-returns-in-Items : goal.perform_parts-returns-in-Items
perform_parts-returns-in-Items t c =
    of_form c.args.world.now c.args.scope.now c.args.expr.now c.args.frame.now _ (items_form c.args.expr.now _ c.in-Items.args c.in-Items.is) (rw c.as_slice-in-Items.ensures at c.perform_in_all-in-Items.ensures)

pub perform_sent-returns-in_err-perform_in : goal.perform_sent-returns-in_err-perform_in
perform_sent-returns-in_err-perform_in t c = sent_none c.args.scope.now c.args.receiver.now c.args.args.now c.args.frame.now c.perform_in.ensures c.in_err-perform_in.was (search rules)

pub perform_sent-returns : goal.perform_sent-returns
perform_sent-returns t c =
    one_and_all c.args.scope.now c.args.receiver.now c.args.args.now c.args.frame.now c.perform_in.ensures c.in_ok-perform_in.was (rw c.as_slice.ensures at c.perform_in_all.ensures)

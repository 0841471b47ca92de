use Rattle.std.proofs.Common.{◌≡◌, ◌≤◌, ap, sym, ◌∙◌, subst, Some}
use Rattle.serde_json.specs.Data.{depth}
use Rattle.serde_json.specs.Read.{max_depth}
use Rattle.serde_json.specs.Written.{has_float, compact_text}
use Rattle.rb_json.specs.Mirrors.{sent}
use Rattle.rb_json.specs.Requests.{request_in}
use Rattle.rb_json.proofs.Written.{request_plain, reads_as}
use Rattle.rb_json.proofs.writing.requests.write_request.Goals as goal

pub returns-clause-text : goal.returns-clause-text
returns-clause-text c =
    c.from_vec.ensures ∙ c.in_ok-to_vec.ensures.text (ap has_float c.in_ok-value.ensures ∙ request_plain (sent c.args.script.now c.args.values.now))
    ∙ ap compact_text c.in_ok-value.ensures

pub returns-clause-reads_back : goal.returns-clause-reads_back
returns-clause-reads_back c deep =
    ap request_in c.from_vec.ensures
    ∙ reads_as c.in_ok-to_vec.field-0.items c.args.script.now c.args.values.now c.requires.formed c.requires.inputs c.in_ok-to_vec.ensures.utf8
    (c.in_ok-to_vec.ensures.reads_back (subst (λ d. depth d ≤ max_depth) (sym c.in_ok-value.ensures) deep) ∙ ap Some c.in_ok-value.ensures)

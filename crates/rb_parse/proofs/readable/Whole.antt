-- What the tokens of a source derive within the limits of nesting is readable.
use Rattle.std.proofs.Common.{◌≡◌, ℕ, true, false, List, [], ◌++◌, length, refl, sym, subst, ◌∙◌, arith, append-nil}
use Rattle.std.specs.List.{All}
use Rattle.rb_trees.specs.declared.tokens.Token.{Token}
use Rattle.rb_trees.specs.mirror.Declarations.{Class, Program}
use Rattle.rb_meaning_bytes.specs.tokens.Lists.{TokensBetween, AllWithinLimits}
use Rattle.rb_meaning_bytes.specs.tokens.Texts.{IsTokens}
use Rattle.rb_meaning_bytes.specs.grammar.Symbols as s
use Rattle.rb_meaning_bytes.specs.grammar.Symbols.{Symbol, Nonterminal, Chain, MoreChain, TreeOf, Trees, Makes, made}
use Rattle.rb_meaning_bytes.specs.grammar.Productions.{Production}
use Rattle.rb_meaning_bytes.specs.grammar.Derives as g
use Rattle.rb_meaning_bytes.specs.grammar.Derives.{Spells, DerivesAs, Derives}
use Rattle.rb_meaning_bytes.specs.grammar.Limits.{Nesting, after, nothing_open, Within}
use Rattle.rb_parse.proofs.Laws.{within_prefix}
use Rattle.rb_parse.proofs.readable.Codes.{all_code, no_object, tokens_front, limits_front}
use Rattle.rb_parse.proofs.readable.States.{Room, Ready}
use Rattle.rb_parse.proofs.readable.Steps.{Keeps}
use Rattle.rb_parse.proofs.readable.Trees.{IsReadClass, IsReadable}
use Rattle.rb_parse.proofs.readable.Tokens.{AllFit, all_fit, state_after, state_behind, fit_front, fit_back, room_after}
use Rattle.rb_parse.proofs.readable.Invariants.{Good, Run, end_of, Keeping}
use Rattle.rb_parse.proofs.readable.Types.{at_type}
use Rattle.rb_parse.proofs.readable.Expressions.{at_chain, at_more_chain, at_prefix, at_postfix, at_members, at_call, at_first, at_arguments, at_more_arguments}
use Rattle.rb_parse.proofs.readable.Statements.{at_statement, at_statement_end, at_otherwise, at_statements, at_block, at_returns, at_body}
use Rattle.rb_parse.proofs.readable.Programs.{at_param, at_params, at_more_params, at_result, at_signature, at_signatures, at_fields, at_interface, at_interfaces, at_method, at_methods, at_class, at_classes, at_program}

-- every production keeps what holds of parts
keeps : {source : List ℕ} {l : List Symbol} (p : Nonterminal) {f : Makes l (TreeOf p)} → Production source p l f → Keeping source p l f
keeps s.TheProgram rule = at_program rule
keeps s.Interfaces rule = at_interfaces rule
keeps s.AnInterface rule = at_interface rule
keeps s.Signatures rule = at_signatures rule
keeps s.ASignature rule = at_signature rule
keeps s.Params rule = at_params rule
keeps s.MoreParams rule = at_more_params rule
keeps s.AParam rule = at_param rule
keeps s.ResultType rule = at_result rule
keeps s.Classes rule = at_classes rule
keeps s.AClass rule = at_class rule
keeps s.Fields rule = at_fields rule
keeps s.Methods rule = at_methods rule
keeps s.AMethod rule = at_method rule
keeps s.AType rule = at_type rule
keeps s.ABody rule = at_body rule
keeps s.Returns rule = at_returns rule
keeps s.Block rule = at_block rule
keeps s.Statements rule = at_statements rule
keeps s.Statement rule = at_statement rule
keeps s.StatementEnd rule = at_statement_end rule
keeps s.Otherwise rule = at_otherwise rule
keeps (Chain level) rule = at_chain level rule
keeps (MoreChain level) rule = at_more_chain level rule
keeps s.Prefix rule = at_prefix rule
keeps s.Postfix rule = at_postfix rule
keeps s.Members rule = at_members rule
keeps s.CallPart rule = at_call rule
keeps s.First rule = at_first rule
keeps s.Arguments rule = at_arguments rule
keeps s.MoreArguments rule = at_more_arguments rule
keeps s.TheService rule = λ n ys run. tt
keeps s.Objects rule = λ n ys run. tt
keeps s.AnObject rule = λ n ys run. tt
keeps s.GivenFields rule = λ n ys run. tt
keeps s.ALiteral rule = λ n ys run. tt
keeps s.Literals rule = λ n ys run. tt
keeps s.MoreLiterals rule = λ n ys run. tt

-- The states behind the symbols that tokens spell.
record Ran (source : List ℕ) (l : List Symbol) (n : Nesting) (ts : List Token) (xs : Trees l) : Type 0 where
  run : Run source l n xs
  ends : end_of source l n xs run ≡ state_after n ts

ran : (source : List ℕ) {l : List Symbol} {ts : List Token} {xs : Trees l} → Spells source l ts xs → (n : Nesting) → Room n → AllFit source n ts → Ran source l n ts xs
ran source g.nothing n room h = record { run = tt; ends = refl }
ran source (g.token {l} {ts} {xs} t d) n room h =
    let b = ran source d (after n t.kind) h.0 h.2 in
    record { run = (h.0, h.1, b.run); ends = b.ends }
ran source (g.production {p} {m} {l} {f} {ts} {us} {ys} {xs} rule d e) n room h =
    let front = fit_front source n ts us h in
    let behind = room_after source n ts room front in
    let b = ran source d n room front in
    let c = ran source e (state_after n ts) behind (fit_back source n ts us h) in
    let good : Good p n (made m (TreeOf p) f ys) (state_after n ts) = subst (Good p n (made m (TreeOf p) f ys)) b.ends (keeps p rule n ys b.run) in
    record { run = (state_after n ts, behind, good, c.run); ends = c.ends ∙ sym (state_behind n ts us) }

-- what a part of code is, that the first tokens of a source spell within the limits
module _ (source : List ℕ) (tokens : List Token) (t : IsTokens source tokens) where
  ran_front : {l : List Symbol} {xs : Trees l} (front rest : List Token) → tokens ≡ front ++ rest → all_code l ≡ true → Spells source l front xs → Within tokens → Ran source l nothing_open front xs
  ran_front front rest e c d h =
      let b = tokens_front source 0 (length source) front rest (subst (λ ts. TokensBetween source 0 ts (length source)) e t.stand) in
      let l = limits_front source false front rest (subst (AllWithinLimits false source) e t.limits) in
      let w = within_prefix nothing_open front rest (subst Within e h) in
      ran source d nothing_open (record { blocks = omega arith; types = omega arith; marks = omega arith }) (all_fit source nothing_open 0 b.0 front t.utf8 b.1 l (no_object source d c) w)

nothing_before : Ready nothing_open
nothing_before = record { no_fun = refl; no_list = refl; no_head = refl; no_head_before = refl; room = omega arith }

pub readable : (source : List ℕ) (tokens : List Token) (program : Program) → IsTokens source tokens → Derives source tokens program → Within tokens → IsReadable program
readable source tokens program t d h =
    let a = ran_front source tokens t tokens [] (sym (append-nil tokens)) refl d h in
    a.run.2 nothing_before refl refl

-- the classes that the first tokens spell
pub readable_classes : (source : List ℕ) (tokens front rest : List Token) (classes : List Class) → IsTokens source tokens → tokens ≡ front ++ rest → DerivesAs s.Classes source front classes → Within tokens → All IsReadClass classes
readable_classes source tokens front rest classes t e d h =
    let a = ran_front source tokens t front rest e refl d h in
    let b : Keeps nothing_open (All IsReadClass classes) a.run.0 = a.run.2 nothing_before refl refl in
    b.read

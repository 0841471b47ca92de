-- The pieces of objects are good: their text has just their tokens.
use Rattle.std.proofs.Common.{ℕ, ℤ, pos, negsuc, ◌≤◌, suc, Bool, true, false, List, [], ◌∷◌, ◌++◌, codes, refl, sym, subst, append_assoc}
use Rattle.std.specs.List.{AllByRecursion}
use Rattle.rb_trees.specs.mirror.Services.{Literal, Literals, Int, Bool as Truth, Text, Object as Reference, Items, NoLiterals, MoreLiterals, ObjectText}
use Rattle.rb_trees.specs.printing.Words as w
use Rattle.rb_trees.specs.printing.Words.{space, name_piece, number_piece, bool_piece, text_piece}
use Rattle.rb_meaning_types.specs.Values.{IsInt}
use Rattle.rb_meaning_bytes.specs.tokens.Bytes.{is_letter}
use Rattle.rb_meaning_bytes.specs.tokens.Tables.{keywords, signs, number_in}
use Rattle.rb_lex.proofs.InTables.{keyword_word}
use Rattle.rb_parse.proofs.printing.lexed.Good.{Good}
use Rattle.rb_parse.proofs.printing.lexed.Words.{word_utf8, sign_utf8}
use Rattle.rb_parse.proofs.printing.lexed.Leads as leads
use Rattle.rb_parse.proofs.printing.lexed.Leads.{Followed, Leads, Stands, opens_too, spaced, ended, name_leads, number_leads, text_leads}
use Rattle.rb_parse.proofs.printing.lexed.Exprs.{Flows, Trails, flows_then, nothing_trails, trails_flow, one_flows, semicolon_trails, comma_trails, after_space}
use Rattle.rb_parse.proofs.printing.lexed.Stmts.{Lines, lines_then, no_lines}
use Rattle.rb_law_tables.proofs.printed.Ints.{small, small_behind}
use Rattle.rb_law_tables.proofs.printed.Pieces.{object_word, root_word, number_sign, feed, signed_pieces, literal_pieces, items_pieces, more_pieces, given_pieces, object_end, object_pieces, objects_pieces, root_pieces}
use Rattle.rb_law_tables.proofs.printed.Prints.{greatest, Prints, AllPrint, GivenPrints, ObjectPrints}

object_leads : Leads object_word
unfolding keywords number_in is_letter
object_leads minus rest f =
    record { good = (record { formed = refl; limits = tt; utf8 = word_utf8 (codes "object") (keyword_word (codes "object") 30 refl); parts = f.ends }, f.good); starts = refl }

root_leads : Leads root_word
unfolding keywords number_in is_letter
root_leads minus rest f =
    record { good = (record { formed = refl; limits = tt; utf8 = word_utf8 (codes "root") (keyword_word (codes "root") 31 refl); parts = f.ends }, f.good); starts = refl }

number_sign_stands : Stands number_sign
unfolding signs number_in
number_sign_stands minus rest f = (record { formed = refl; limits = tt; utf8 = sign_utf8 (codes "#") 25 refl; parts = f.starts }, f.good)

-- literals

close_bracket_trails : Trails (w.close_bracket ∷ [])
close_bracket_trails rest r = record { good = leads.close_bracket_stands false rest (opens_too r); ends = refl }

int_flows : (z : ℤ) → IsInt z → Flows false (signed_pieces z)
int_flows (pos n) h = λ rest r. number_leads n false (small n h) rest r
int_flows (negsuc n) h = λ rest r. record { good = leads.minus_stands false (number_piece (suc n) ∷ rest) (number_leads (suc n) true (small_behind n h) rest r); starts = refl }

truth_flows : (b : Bool) → Flows false (bool_piece b ∷ [])
truth_flows true = one_flows w.true_word leads.true_leads false
truth_flows false = one_flows w.false_word leads.false_leads false

mutual
  literal_flows : (l : Literal) (n : ℕ) → Prints n l → Flows false (literal_pieces l)
  literal_flows (Int z) n h = int_flows z h
  literal_flows (Truth b) n h = truth_flows b
  literal_flows (Text t) n h = one_flows (text_piece t) (text_leads t h) false
  literal_flows (Reference m) n h = λ rest r. record { good = number_sign_stands false (number_piece m ∷ rest) (number_leads m false h rest r); starts = refl }
  literal_flows (Items ls) n h = λ rest r. record {
    good = leads.open_bracket_stands false _ (flows_then false (items_pieces ls) (w.close_bracket ∷ []) (items_flow ls (suc n) h.1) close_bracket_trails rest r);
    starts = refl;
  }

  items_flow : (ls : Literals) (n : ℕ) → AllPrint n ls → Flows false (items_pieces ls)
  items_flow NoLiterals n h = trails_flow [] nothing_trails
  items_flow (MoreLiterals l ls) n h = flows_then false (literal_pieces l) (more_pieces ls) (literal_flows l n h.0) (more_trail ls n h.1)

  more_trail : (ls : Literals) (n : ℕ) → AllPrint n ls → Trails (more_pieces ls)
  more_trail NoLiterals n h = nothing_trails
  more_trail (MoreLiterals l ls) n h = comma_trails (literal_pieces l ++ more_pieces ls) (flows_then false (literal_pieces l) (more_pieces ls) (literal_flows l n h.0) (more_trail ls n h.1))

-- objects

given_good : (gs : List (List ℕ × Literal)) → AllByRecursion GivenPrints gs → Lines (given_pieces gs)
given_good [] h rest r = r
given_good (g ∷ gs) h rest r =
    let after = w.semicolon ∷ space ∷ given_pieces gs in
    let behind : Followed (after ++ rest) = semicolon_trails (space ∷ (given_pieces gs ++ rest)) (spaced (given_pieces gs ++ rest) (given_good gs h.1 rest r)) in
    let values = (literal_pieces g.1 ++ after) ++ rest in
    let value : Good false values = subst (Good false) (sym (append_assoc (literal_pieces g.1) after rest)) (literal_flows g.1 0 h.0.1 (after ++ rest) behind).good in
    let assigned : Good false (w.assign ∷ space ∷ values) = leads.assign_stands false (space ∷ values) (after_space false values value) in
    (name_leads g.0 h.0.0 false (space ∷ w.assign ∷ space ∷ values) (spaced (w.assign ∷ space ∷ values) assigned)).good

object_good : (o : ObjectText) → ObjectPrints o → Lines (object_pieces o)
object_good o h rest r =
    let end : Good false (object_end ++ rest) = leads.close_brace_stands false (feed ∷ rest) (opens_too (ended rest r)) in
    let given = (given_pieces o.fields ++ object_end) ++ rest in
    let fields : Good false given = subst (Good false) (sym (append_assoc (given_pieces o.fields) object_end rest)) (given_good o.fields h.2 (object_end ++ rest) end) in
    let opened : Good false (w.open_brace ∷ space ∷ given) = leads.open_brace_stands false (space ∷ given) (after_space false given fields) in
    let named = name_piece o.class ∷ space ∷ w.open_brace ∷ space ∷ given in
    let class : Good false named = (name_leads o.class h.1 false (space ∷ w.open_brace ∷ space ∷ given) (spaced (w.open_brace ∷ space ∷ given) opened)).good in
    let colon : Followed (w.colon ∷ space ∷ named) = record { good = leads.colon_stands false (space ∷ named) (after_space false named class); ends = refl } in
    let number = number_leads o.number false h.0 (w.colon ∷ space ∷ named) colon in
    (object_leads false (space ∷ number_piece o.number ∷ w.colon ∷ space ∷ named) (spaced (number_piece o.number ∷ w.colon ∷ space ∷ named) number.good)).good

pub objects_good : (os : List ObjectText) → AllByRecursion ObjectPrints os → Lines (objects_pieces os)
objects_good [] h = no_lines
objects_good (o ∷ os) h = lines_then (object_pieces o) (objects_pieces os) (object_good o h.0) (objects_good os h.1)

pub root_good : (root : ℕ) → root ≤ greatest → Good false (root_pieces root)
root_good root h =
    let number = number_leads root false h (w.semicolon ∷ feed ∷ []) (semicolon_trails (feed ∷ []) (ended [] tt)) in
    (root_leads false (space ∷ number_piece root ∷ w.semicolon ∷ feed ∷ []) (spaced (number_piece root ∷ w.semicolon ∷ feed ∷ []) number.good)).good

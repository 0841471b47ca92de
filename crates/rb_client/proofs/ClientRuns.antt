-- A run that the client's World leads is handled as the definition handles it, on the nodes that were replied.
use Rattle.std.proofs.Common.{◌≡◌, sym, ap, ◌∙◌, subst, inl, inr, List, [], ◌++◌, append_assoc, append-nil}
use Rattle.std.specs.Prelude.{Ok, Err}
use Rattle.rb_trees.specs.mirror.Forests.{Node}
use Rattle.rb_meaning_code.specs.Dialogue.{Dialogue, Done, Ask, AskBatch, Follows, Handler, handle}
use Rattle.rb_meaning_code.specs.Led.{CutsOff, Passes, here, answered, performed}
use Rattle.rb_meaning_split.specs.Client.{Waiting, in_client}
use Rattle.rb_base.specs.declared.links.Link as links
use Rattle.rb_base.specs.declared.sinks.Sink as sinks
use Rattle.rb_client.specs.Clients.{Origin, Past, SeesClient, waiting}
use Rattle.rb_client.specs.MainRuns.{surrounds}
use Rattle.rb_client.specs.declared.client_world.ClientWorld.{ClientWorld}
use Rattle.rb_client.specs.declared.stops.RunStop.{RunStop}

module _ {L W : Type 0} (gl : links.Ghosts L) (gw : sinks.Ghosts W) (o : Origin L W) where
  abbrev H : Handler Waiting
  H = in_client o.program

  -- from a past the run ended so, on these nodes, whatever nodes are to come then
  pub record Ended {A : Type 0} (d : Dialogue A) (h : Past) (a : A) (w : ClientWorld L W) : Type 0 where
    pub nodes : List Node
    pub past : Past
    pub sees : SeesClient gl gw o w past
    pub nodes_so : past.nodes ≡ h.nodes ++ nodes
    pub handled : (more : List Node) → handle H d (waiting h (nodes ++ more)) ≡ (a, waiting past more)

  pub ends : {A : Type 0} (d : Dialogue A) (w w' : ClientWorld L W) (h : Past) (a : A) → SeesClient gl gw o w h → Follows (surrounds gl gw) d w (Ok a) w' → Ended d h a w'
  ends (Done b) w w' h a sees led =
      let same : b ≡ a = cc (led.0) in
      record { nodes = []; past = h; sees = subst (λ x. SeesClient gl gw o x h) (sym led.1) sees; nodes_so = sym (append-nil h.nodes); handled = λ more. ap (λ x. (x, waiting h more)) same }
  ends (Ask q go) w w' h a sees (inl (b, mid, e, led)) =
      let t = e o h sees in
      let r = ends (go b) mid w' t.0 a t.1 led in
      record {
        nodes = r.nodes;
        past = r.past;
        sees = r.sees;
        nodes_so = r.nodes_so ∙ ap (λ ns. ns ++ r.nodes) t.2;
        handled = λ more. ap (λ x. handle H (go x.0) x.1) (t.3 (r.nodes ++ more)) ∙ r.handled more;
      }
  ends (Ask q go) w w' h a sees (inr (x, e, is)) = absurd (cc (is))
  ends (AskBatch at l go) w w' h a sees (inl (b, mid, e, led)) =
      let t = e o h sees in
      let r = ends (go b) mid w' t.1 a t.2 led in
      record {
        nodes = t.0 ++ r.nodes;
        past = r.past;
        sees = r.sees;
        nodes_so = r.nodes_so ∙ ap (λ ns. ns ++ r.nodes) t.3 ∙ append_assoc h.nodes t.0 r.nodes;
        handled = λ more. ap (λ ns. handle H (AskBatch at l go) (waiting h ns)) (append_assoc t.0 r.nodes more) ∙ ap (λ x. handle H (go x.0) x.1) (t.4 (r.nodes ++ more)) ∙ r.handled more;
      }
  ends (AskBatch at l go) w w' h a sees (inr (x, e, is)) = absurd (cc (is))

  -- from a past the run passes what is left of it, where the World cut it off
  pub record Cut {A : Type 0} (d : Dialogue A) (h : Past) (x : RunStop) (w : ClientWorld L W) : Type 0 where
    pub nodes : List Node
    pub past : Past
    pub rest : Dialogue A
    pub before : ClientWorld L W
    pub sees : SeesClient gl gw o before past
    pub nodes_so : past.nodes ≡ h.nodes ++ nodes
    pub passes : (more : List Node) → Passes H d (waiting h (nodes ++ more)) rest (waiting past more)
    pub cut : CutsOff (surrounds gl gw) rest before x w

  pub cuts : {A : Type 0} (d : Dialogue A) (w w' : ClientWorld L W) (h : Past) (x : RunStop) → SeesClient gl gw o w h → Follows (surrounds gl gw) d w (Err x) w' → Cut d h x w'
  cuts (Done b) w w' h x sees led = absurd (cc (led.0))
  cuts (Ask q go) w w' h x sees (inl (b, mid, e, led)) =
      let t = e o h sees in
      let r = cuts (go b) mid w' t.0 x t.1 led in
      record {
        nodes = r.nodes;
        past = r.past;
        rest = r.rest;
        before = r.before;
        sees = r.sees;
        nodes_so = r.nodes_so ∙ ap (λ ns. ns ++ r.nodes) t.2;
        passes = λ more. answered q go (waiting h (r.nodes ++ more)) (waiting r.past more) r.rest
            (subst (λ y. Passes H (go y.0) y.1 r.rest (waiting r.past more)) (sym (t.3 (r.nodes ++ more))) (r.passes more));
        cut = r.cut;
      }
  cuts (Ask q go) w w' h x sees (inr (y, e, is)) =
      let same : y ≡ x = cc (is) in
      record {
        nodes = [];
        past = h;
        rest = Ask q go;
        before = w;
        sees = sees;
        nodes_so = sym (append-nil h.nodes);
        passes = λ more. here (Ask q go) (waiting h more);
        cut = subst (λ z. (surrounds gl gw).answers w q (Err z) w') same e;
      }
  cuts (AskBatch at l go) w w' h x sees (inl (b, mid, e, led)) =
      let t = e o h sees in
      let r = cuts (go b) mid w' t.1 x t.2 led in
      record {
        nodes = t.0 ++ r.nodes;
        past = r.past;
        rest = r.rest;
        before = r.before;
        sees = r.sees;
        nodes_so = r.nodes_so ∙ ap (λ ns. ns ++ r.nodes) t.3 ∙ append_assoc h.nodes t.0 r.nodes;
        passes = λ more. subst (λ ns. Passes H (AskBatch at l go) (waiting h ns) r.rest (waiting r.past more)) (sym (append_assoc t.0 r.nodes more))
            (performed at l go (waiting h (t.0 ++ (r.nodes ++ more))) (waiting r.past more) r.rest
            (subst (λ y. Passes H (go y.0) y.1 r.rest (waiting r.past more)) (sym (t.4 (r.nodes ++ more))) (r.passes more)));
        cut = r.cut;
      }
  cuts (AskBatch at l go) w w' h x sees (inr (y, e, is)) =
      let same : y ≡ x = cc (is) in
      record {
        nodes = [];
        past = h;
        rest = AskBatch at l go;
        before = w;
        sees = sees;
        nodes_so = sym (append-nil h.nodes);
        passes = λ more. here (AskBatch at l go) (waiting h more);
        cut = subst (λ z. (surrounds gl gw).performs w at l (Err z) w') same e;
      }

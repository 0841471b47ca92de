use Rattle.std.proofs.Common.{◌≡◌, ◌+◌, ◌*◌, length, sym, ap, ◌∙◌, subst, arith}
use Rattle.rb_places.specs.Noted.{AreNoted, IsPlace}
use Rattle.rb_places.proofs.More.{noted_more, one_more}
use Rattle.rb_places.proofs.places.Places.of.Goals as goal

pub loop-k-preserved : goal.loop-k-preserved
loop-k-preserved c =
    let stride : c.loop-k.k * 64 + 64 ≡ (c.loop-k.k + 1) * 64 = omega arith in
    let next : IsPlace c.args.text.now ((c.loop-k.k + 1) * 64) c.advance-place.result =
    subst (λ at. IsPlace c.args.text.now at c.advance-place.result) stride c.advance-place.ensures in
    let last : IsPlace c.args.text.now (length c.loop-k.noted.items * 64) c.advance-place.result =
    subst (λ n. IsPlace c.args.text.now (n * 64) c.advance-place.result) (sym c.loop-k.invariant.count) next in
    record {
      noted = subst (λ ps. AreNoted c.args.text.now ps) (sym c.in_ok-push-2.ensures.items) (noted_more c.args.text.now c.loop-k.noted.items c.advance-place.result c.loop-k.invariant.noted last);
      place = next;
      count = ap length c.in_ok-push-2.ensures.items ∙ one_more c.loop-k.noted.items c.advance-place.result ∙ ap (λ n. n + 1) c.loop-k.invariant.count;
    }

use Rattle.std.proofs.Common.{◌≡◌, ◌⊎◌, Err, None, inl, inr, subst, sym}
use Rattle.hex.specs.Hex.{decode_of}
use Rattle.hex.specs.declared.error.FromHexError.TheVariants as errors
use Rattle.rb_hub_lines.specs.Reading.{FindsBytes}
use Rattle.rb_hub_lines.proofs.Found.{decoded, not_decoded}
use Rattle.rb_hub_lines.proofs.finding.bytes_of.Goals as goal

pub returns-in-Ok : goal.returns-in-Ok
returns-in-Ok c =
    subst (FindsBytes c.args.digits.now) (sym c.some_bytes.ensures) (decoded c.args.digits.now c.in-Ok.bytes.items c.from_vec.result c.in-Ok.ensures.ok c.from_vec.ensures)

pub returns-in_default : goal.returns-in_default
returns-in_default c = by_cause c.in-Err.ensures.err
  where
    by_cause : (c.in-Err.error ≡ errors.OutOfMemory) ⊎ (decode_of c.args.digits.now ≡ Err c.in-Err.error) → FindsBytes c.args.digits.now None
    by_cause (inl want) = absurd (c.in_default.not-OutOfMemory want)
    by_cause (inr wrong) = not_decoded c.args.digits.now c.in-Err.error wrong

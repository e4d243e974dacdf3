use Rattle.std.proofs.Common.{◌≡◌, ◌∙◌, ap, sym, true}
use Rattle.command_words.specs.Numbers.{is_digits}
use Rattle.command_words.proofs.Digits.{parsed}
use Rattle.command_words.proofs.numbers.number.Goals as goal

pub returns-then-is_digits : goal.returns-then-is_digits
returns-then-is_digits c =
    let digits : is_digits c.args.word.now ≡ true = ap is_digits (sym c.as_bytes.ensures.value) ∙ sym c.is_digits.ensures.value ∙ c.if-is_digits.true in
    record { value = c.ok.ensures.value ∙ parsed c.args.word.now c.parse.result digits c.parse.ensures.value.0 }

use Rattle.std.proofs.Common.{arith, rules, ◌≡◌, ◌&&◌, eqb, ◌%◌, ◌≤◌, ◌∙◌}
use Rattle.int128.proofs.Halves.{some_is}
use Rattle.int128.proofs.Signs.{none_checked}
use Rattle.int128.proofs.Power.{power_none, power_over, power_is, signed_power}
use Rattle.int128.proofs.Int128.checked_pow.Goals as goal
use Rattle.int128.proofs.Int128.checked_pow.Goals.{then-self, else-self}

pub returns-in_err-n : goal.returns-in_err-n
returns-in_err-n c = c.from_residual.ensures ∙ power_none _ _ (c.in_err-n.ensures.value ∙ c.try_from.ensures)

pub returns-in_err-n-2 : goal.returns-in_err-n-2
returns-in_err-n-2 c =
    let large : 4294967296 ≤ c.in_ok-n.n = grind arith in
    c.from_residual-in_err-n-2.ensures ∙ power_over _ _ _ (c.in_ok-n.ensures.value ∙ c.try_from.ensures) large

pub returns-in_err-power : goal.returns-in_err-power
returns-in_err-power c =
    let same : c.in_ok-n.n ≡ c.in_ok-n-2.n = grind arith in
    c.from_residual-in_err-power.ensures
    ∙ rw (power_is _ _ _ (c.in_ok-n.ensures.value ∙ c.try_from.ensures) (omega arith), same, signed_power) (none_checked _ _ c.in_err-power.ensures)

pub returns : goal.returns
returns c =
    let same : c.in_ok-n.n ≡ c.in_ok-n-2.n = grind arith in
    let sign : c.if-self.fit ≡ (c.args.self.neg && eqb (c.in_ok-n-2.n % 2) 1) =
    elim c.if-self.branch [ then-self w ↦ search rules | else-self w ↦ search rules ] in
    rw (power_is _ _ _ (c.in_ok-n.ensures.value ∙ c.try_from.ensures) (omega arith), same, signed_power, ← sign, ← some_is _ _ c.in_ok-power.ensures) c.fit.ensures

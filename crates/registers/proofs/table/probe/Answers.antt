use Rattle.std.proofs.Common.{◌≡◌, ℕ, ◌+◌, cond, eqb, length, sym, ap, ◌∙◌, subst, arith}
use Rattle.std.proofs.lemmas.Bool.Decides.{nat_tests}
use Rattle.registers.proofs.Ways.{Probing, key_in, probing_ends, probing_found, probing_more, probing_none}
use Rattle.registers.proofs.table.probe.Goals as goal
use Rattle.registers.proofs.table.probe.Goals.{then-at-slots, else-at-slots}

pub loop-init : goal.loop-init
loop-init c =
    subst (λ (a : ℕ). Probing c.args.table.now c.args.key 0 a) (sym c.home-at.ensures)
    (probing_none _ _ (omega (arith, c.requires.room)))

pub returns-in_default : goal.returns-in_default
returns-in_default c = probing_found _ _ _ _ c.loop.invariant c.loop-test.true (λ e h. absurd (c.in_default.not-Some e h))

pub returns-then-from-key : goal.returns-then-from-key
returns-then-from-key c =
    probing_found _ _ _ _ c.loop.invariant c.loop-test.true (λ e h. ap key_in (sym h ∙ c.in-Some.is) ∙ sym c.from.ensures ∙ c.if-from-key.true)

pub loop-preserved : goal.loop-preserved
loop-preserved c =
    let next : c.if-at-slots.at ≡ cond (eqb (c.loop.at + 1) (length c.args.table.now)) 0 (c.loop.at + 1) =
    elim c.if-at-slots.branch [ then-at-slots w ↦ grind (arith, nat_tests, w.at-is, w.if-at-slots.true) | else-at-slots w ↦ grind (arith, nat_tests, w.at-is, w.if-at-slots.false) ] in
    probing_more _ _ _ c.loop.at _ _ c.loop.invariant c.loop-test.true c.in-Some.is (λ same. c.if-from-key.false (c.from.ensures ∙ same)) next

pub unreachable-requires : goal.unreachable-requires
unreachable-requires c = probing_ends _ _ _ _ c.loop.invariant c.loop-test.false c.requires

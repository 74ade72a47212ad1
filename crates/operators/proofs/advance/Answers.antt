-- `operators::advance` meets its contract: in each arm the kind is known, and with it the formula's last operator.
-- Assumes nothing.
use Prim.Native.Nat.{◌≤◌}
use mathlib.Core.Path.{ap}
use lib.ListN.{length}
use Rattle.rule.specs.Kinds.{number_of_kind}
use Rattle.operators.proofs.ByKind.{promised, room_of, since_room_of, until_room_of}
use Rattle.operators.proofs.advance.Goals as goal
use Rattle.operators.proofs.advance.Goals.{Start}

room : (c : Start) → 16 ≤ length c.args.block.now
room c = room_of (number_of_kind c.args.kind) c.args.high _ c.requires.2

pub step_not-requires : goal.step_not-requires
step_not-requires c = room (goal.at.step_not-requires c).Start

pub step_or-requires : goal.step_or-requires
step_or-requires c = room (goal.at.step_or-requires c).Start

pub step_previous-requires : goal.step_previous-requires
step_previous-requires c = (room (goal.at.step_previous-requires c).Start, c.requires.4, c.requires.5)

pub step_next-requires : goal.step_next-requires
step_next-requires c = (room (goal.at.step_next-requires c).Start, c.requires.3, c.requires.5)

pub step_since-requires : goal.step_since-requires
step_since-requires c =
    (c.requires.1, since_room_of (number_of_kind c.args.kind) c.args.high _ (ap number_of_kind c.in-Since.is) c.requires.2, c.requires.3, c.requires.5)

pub step_until-requires : goal.step_until-requires
step_until-requires c =
    (until_room_of (number_of_kind c.args.kind) c.args.high _ (ap number_of_kind c.in-Until.is) c.requires.2, c.requires.3, c.requires.4, c.requires.5)

pub returns-in-Not : goal.returns-in-Not
returns-in-Not c =
    let whole = let step = c.step_not in
    promised 1 step.result step.new.block
    (ap number_of_kind c.in-Not.is) step.ensures.ends (λ c φ ψ. step.ensures.by_index _ ψ) (c.requires.3, c.requires.4) in
    record { ends = whole.0; steps = whole.1.0; keeps = whole.1.1 }

pub returns-in-Or : goal.returns-in-Or
returns-in-Or c =
    let whole = let step = c.step_or in
    promised 2 step.result step.new.block
    (ap number_of_kind c.in-Or.is) step.ensures.ends (λ c φ ψ. step.ensures.by_index _ φ ψ) (c.requires.3, c.requires.4) in
    record { ends = whole.0; steps = whole.1.0; keeps = whole.1.1 }

pub returns-in-Previous : goal.returns-in-Previous
returns-in-Previous c =
    let whole = let step = c.step_previous in
    promised 3 step.result step.new.block
    (ap number_of_kind c.in-Previous.is) step.ensures.ends (λ c φ ψ. step.ensures.steps ψ) (c.requires.3, step.ensures.keeps) in
    record { ends = whole.0; steps = whole.1.0; keeps = whole.1.1 }

pub returns-in-Next : goal.returns-in-Next
returns-in-Next c =
    let whole = let step = c.step_next in
    promised 4 step.result step.new.block
    (ap number_of_kind c.in-Next.is) step.ensures.ends (λ c φ ψ. step.ensures.steps ψ) (step.ensures.keeps, c.requires.4) in
    record { ends = whole.0; steps = whole.1.0; keeps = whole.1.1 }

pub returns-in-Since : goal.returns-in-Since
returns-in-Since c =
    let whole = let step = c.step_since in
    promised 5 step.result step.new.block
    (ap number_of_kind c.in-Since.is) step.ensures.ends (λ c. step.ensures.steps) (step.ensures.keeps, c.requires.4) in
    record { ends = whole.0; steps = whole.1.0; keeps = whole.1.1 }

pub returns-in-Until : goal.returns-in-Until
returns-in-Until c =
    let whole = let step = c.step_until in
    promised 6 step.result step.new.block (ap number_of_kind c.in-Until.is) step.ensures.ends (λ c. step.ensures.steps) step.ensures.keeps in
    record { ends = whole.0; steps = whole.1.0; keeps = whole.1.1 }

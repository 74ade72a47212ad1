-- `until::must_wait` meets its contract, by the laws of proofs/Steps. Assumes nothing.
use native.Mathlib.Omega.{arith}
use mathlib.Core.Bool.{true≢false}
use mathlib.Core.Path.{sym}
use Rattle.blocks.proofs.Reading.{readable}
use Rattle.until.proofs.Steps.{stuck_fresh, stuck_first}
use Rattle.until.proofs.must_wait.Goals as goal

pub returns-then-room-ne0 : goal.returns-then-room-ne0
returns-then-room-ne0 c = record { take_value = λ e. absurd (true≢false (sym e)); keeps = c.requires.1 }

pub returns-then-block : goal.returns-then-block
returns-then-block c =
    let a = c.args in
    record { take_value = λ t. (c.if-room-ne0.false, stuck_fresh a.low a.high a.view.now a.records.now a.block.now (λ i. (c.type_inv.records i).fits) c.if-block.true); keeps = c.requires.1 }

pub first_waits-requires : goal.first_waits-requires
first_waits-requires c =
    let room = c.requires.0 in
    let next = c.open-ahead.ensures in
    (omega arith, record { inside = readable c.args.view.now _ next; long = next.long })

pub returns : goal.returns
returns c =
    let behind = c.requires.2 in
    let fits = c.requires.3 in
    let none = c.if-room-ne0.false in
    let inside = fits.inside in
    let ends = fits.ahead in
    let different = c.if-block.false in record {
      take_value = λ e. (
        none,
        stuck_first
            (record {
              byte = λ i. (c.type_inv.records i).fits;
              some = omega arith;
              inside = omega arith;
              ends = omega arith;
              next = c.open-ahead.ensures;
              start = c.first_time-start.ensures;
              unknown = c.first_waits.ensures e;
            }),
      );
      keeps = c.open-ahead.ensures.keeps;
    }

-- The answers of the cycle of calls {tell, tell_either}.
use native.Mathlib.Omega.{arith}
use Rattle.telling.proofs.Rooms.{or_left, or_right}
use Rattle.telling.proofs.Following.{may_say, may_put, tells_none, before, may_tell, tells_one, may_either, tells_two}
use Rattle.telling.proofs.Either.{may_left, tells_left, may_right, tells_both, may_cut, tells_right}
use Rattle.telling.proofs.+tell_tell_either.Goals as goal

-- the entry's own line
pub tell-say-own-requires : goal.tell-say-own-requires
tell-say-own-requires t c = may_say c.requires

pub tell-put_line-requires : goal.tell-put_line-requires
tell-put_line-requires t c = may_put c.requires c.say-own.ensures.saids

-- nothing follows
pub tell-returns-in-Nothing-clause-tells : goal.tell-returns-in-Nothing-clause-tells
tell-returns-in-Nothing-clause-tells t c = tells_none c.requires c.say-own.ensures.saids c.put_line.ensures c.in-Nothing.holds c.in-Nothing.is

-- the only operand's lines follow
pub tell-overflow_sub-k : goal.tell-overflow_sub-k
tell-overflow_sub-k t c = before c.requires c.say-own.ensures.saids c.put_line.ensures c.in-One.there c.in-One.turned c.in-One.is

pub tell-tell-holds-requires : goal.tell-tell-holds-requires
tell-tell-holds-requires t c =
    let some = before c.requires c.say-own.ensures.saids c.put_line.ensures c.in-One.there c.in-One.turned c.in-One.is in (
      omega (arith, c.decreases),
      may_tell c.requires c.say-own.ensures.saids c.put_line.ensures c.in-One.there c.in-One.turned c.in-One.is c.say-own.auto.words c.say-own.ensures.keeps,
    )

pub tell-returns-in-One-clause-tells : goal.tell-returns-in-One-clause-tells
tell-returns-in-One-clause-tells t c = tells_one c.requires c.say-own.ensures.saids c.put_line.ensures c.in-One.there c.in-One.turned c.in-One.is c.tell-holds.ensures.tells

-- an or's operands' lines follow
pub tell-tell_either-requires : goal.tell-tell_either-requires
tell-tell_either-requires t c = (omega (arith, c.decreases), may_either c.requires c.say-own.ensures.saids c.put_line.ensures c.in-Either.is c.say-own.auto.words c.say-own.ensures.keeps)

pub tell-returns-in-Either-clause-tells : goal.tell-returns-in-Either-clause-tells
tell-returns-in-Either-clause-tells t c = tells_two c.requires c.say-own.ensures.saids c.put_line.ensures c.in-Either.is c.tell_either.ensures.tells_either

-- left's lines
pub tell_either-tell-left_holds-requires : goal.tell_either-tell-left_holds-requires
tell_either-tell-left_holds-requires t c = let (below, same) = or_left c.requires.lent c.requires.kind in let at = c.from-left.ensures in (omega (arith, c.decreases), may_left c.requires _ at)

-- left is yes
pub tell_either-returns-then-left_holds-clause-tells_either : goal.tell_either-returns-then-left_holds-clause-tells_either
tell_either-returns-then-left_holds-clause-tells_either t c = tells_left c.requires c.from-left.ensures c.tell-left_holds.ensures.tells c.if-left_holds.true

-- right's lines
pub tell_either-overflow_sub-k : goal.tell_either-overflow_sub-k
tell_either-overflow_sub-k t c = (or_right c.requires.lent c.requires.kind).0

pub tell_either-tell-right_holds-requires : goal.tell_either-tell-right_holds-requires
tell_either-tell-right_holds-requires t c = let (below, same) = or_right c.requires.lent c.requires.kind in (omega (arith, c.decreases), may_right c.requires c.from-left.ensures c.tell-left_holds.ensures.tells c.tell-left_holds.auto.words c.tell-left_holds.ensures.keeps)

-- neither is
pub tell_either-returns-then-not-right_holds-clause-tells_either : goal.tell_either-returns-then-not-right_holds-clause-tells_either
tell_either-returns-then-not-right_holds-clause-tells_either t c = tells_both c.requires c.from-left.ensures c.tell-left_holds.ensures.tells c.if-left_holds.false c.tell-right_holds.ensures.tells c.if-not-right_holds.true

-- right is yes: its lines stand in left's place
pub tell_either-cut-requires : goal.tell_either-cut-requires
tell_either-cut-requires t c =
    let (up, on, inside) = may_cut c.requires c.from-left.ensures c.tell-left_holds.ensures.tells c.if-left_holds.false c.tell-right_holds.ensures.tells in
    let first = c.len-start.ensures in
    let second = c.len-middle.ensures in
    (omega arith, omega arith, inside)

pub tell_either-returns-clause-tells_either : goal.tell_either-returns-clause-tells_either
tell_either-returns-clause-tells_either t c =
    tells_right c.requires c.from-left.ensures c.tell-left_holds.ensures.tells c.if-left_holds.false c.tell-right_holds.ensures.tells c.if-not-right_holds.false
    c.len-start.ensures c.len-middle.ensures c.cut.ensures

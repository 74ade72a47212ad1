-- `give` meets its contract: the places of one formula are all of them.
use Prim.Native.Nat.{ℕ}
use mathlib.Core.List.{List}
use mathlib.Core.Path.{◌≡◌, subst}
use lib.ListN.{length, take}
use Rattle.std.proofs.Math.Seq.{take-length}
use Rattle.emit.proofs.give.Goals as goal

all : {A : Type 0} (xs : List A) (n : ℕ) → length xs ≡ n → take n xs ≡ xs
all xs n e = subst (λ (m : ℕ). take m xs ≡ xs) e (take-length xs)

pub give_all-requires : goal.give_all-requires
give_all-requires c = let p = c.requires in (rw (all c.args.tops.now 1 c.if-tops-eq1.true) p.0, p.1, p.2, p.3)

pub returns-then-tops-eq1 : goal.returns-then-tops-eq1
returns-then-tops-eq1 c = rw (all c.args.tops.now 1 c.if-tops-eq1.true) at c.give_all.ensures

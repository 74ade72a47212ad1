-- The answered number of a list of formulas: of none and of one, within the log, and on a longer log. Assumes nothing.
use Prim.Native.Nat.{◌≤◌}
use native.Mathlib.Omega.{arith}
use mathlib.Core.Path.{◌≡◌, refl}
use mathlib.Core.List.{List, [], ◌∷◌}
use Rattle.mtl.specs.Formula.{Formula}
use Rattle.mtl.specs.Log.{Log, NeverFalls, Continues}
use Rattle.mtl.specs.Progress.{settled_to, joint_progress}
use Rattle.mtl.proofs.Closing.{settled_le_size, settled_grows}

pub joint_le_size : (fs : List Formula) (L : Log) → joint_progress fs L ≤ L.size
unfolding joint_progress
joint_le_size [] L = omega arith
joint_le_size (φ ∷ fs) L = omega (arith, joint_le_size fs L)

-- "A equals N"
pub joint_none : (L : Log) → joint_progress [] L ≡ L.size
unfolding joint_progress
joint_none L = refl

-- of one formula, its own
pub joint_one : (φ : Formula) (L : Log) → joint_progress (φ ∷ []) L ≡ settled_to φ L
unfolding joint_progress
joint_one φ L = omega (arith, settled_le_size φ L)

pub joint_grows : (fs : List Formula) (K L : Log) → Continues K L → NeverFalls L → joint_progress fs K ≤ joint_progress fs L
unfolding joint_progress
joint_grows [] K L longer falls = longer.longer
joint_grows (φ ∷ fs) K L longer falls = omega (arith, settled_grows φ K L longer falls, joint_grows fs K L longer falls)

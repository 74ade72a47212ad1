-- What a since or an until says, from the numbers that the code has. Assumes nothing.
use Prim.Native.Nat.{ℕ, suc, ◌+◌, ◌-◌, ◌≤◌, min, max}
use mathlib.Core.Bool.{true, false, cond}
use mathlib.Core.Bool.{not as negate}
use mathlib.Core.Logic.{⊎_elim}
use mathlib.Core.Path.{◌≡◌, refl, ◌∙◌, ap}
use mathlib.Core.List.{List}
use native.Mathlib.Omega.{arith}
use lib.Dec.{ltb}
use Rattle.mtl.specs.Formula.{Formula, unbounded}
use Rattle.window.specs.declared.view.View.{View}
use Rattle.mtl.specs.Formula.Formula.{since, until}
use Rattle.mtl.specs.Log.{Log}
use Rattle.mtl.specs.Satisfaction.{sat}
use Rattle.mtl.specs.Progress.{progress, settled_to}
use Rattle.mtl.proofs.Until.{progress_le_size, progress_since, until_answered}
use Rattle.rule.specs.declared.kind.Kind.TheVariants.{Since, Until}
use Rattle.reasons.specs.Search.{first_where, after_last}
use Rattle.search.specs.declared.Scan.{Scan}
use Rattle.search.specs.Scan.{sought, Scanned}
use Rattle.search.specs.Times.{first_time}
use Rattle.sentences.specs.Said.{saying_of, found_saying, Answering}
use Rattle.sentences.proofs.Operands.{open_settled, inside_here, answered_here, until_finite}
use Rattle.sentences.proofs.SinceFound.{since_said}
use Rattle.sentences.proofs.UntilFound.{yes_said, no_said}
use Rattle.engine.specs.declared.table.Row.{Row}

module _ (low high : ℕ) (φ ψ : Formula) (t : List Row) (v : View) (s : List ℕ) (k i : ℕ) (L : Log) where
  pub since_told : Answering (since low high φ ψ) t v s k L i → L.time i ≤ unbounded →
      (near late from to : ℕ) (l r : Scan) →
      near ≡ first_time L (L.time i - high) → late ≡ first_time L (L.time i + 1 - low) →
      Scanned (sat φ L) false 0 (min (i + 1) (settled_to φ L)) l →
      from ≡ cond (ltb near l.after) (l.after - 1) near → to ≡ min late (i + 1) →
      Scanned (sat ψ L) true from (min to (settled_to ψ L)) r →
      found_saying Since (ltb r.first r.done) r.first from (ltb near l.after) ≡ saying_of (since low high φ ψ) L i
  unfolding sat
  since_told an small near late from to l r near_is late_is lefts from_is to_is rights =
      let an_i = answered_here t v s L (since low high φ ψ) k i an in
      let both = progress_since L low high φ ψ in
      let open_left = open_settled φ L an.shown.unclosed in
      let open_right = open_settled ψ L an.shown.unclosed in
      let all : min (i + 1) (settled_to φ L) ≡ suc i = omega arith in
      let after_is : l.after ≡ after_last (suc i) (λ (q : ℕ). negate (sat φ L q)) = lefts.last ∙ ap (λ (n : ℕ). after_last n (λ (q : ℕ). negate (sat φ L q))) all in
      let near' = first_time L (L.time i - high) in
      let fail' = after_last (suc i) (λ (q : ℕ). negate (sat φ L q)) in
      let from' = cond (ltb near' fail') (fail' - 1) near' in
      let to' = min (first_time L (L.time i + 1 - low)) (suc i) in
      let from_now : from ≡ from' = from_is ∙ rw (near_is, after_is) refl in
      let reach : min to (settled_to ψ L) ≡ to' = omega arith in
      let done_is : r.done ≡ to' = rights.all ∙ reach in
      let first_is : r.first ≡ first_where to' (sought true from' (sat ψ L)) =
      rights.found ∙ ap (λ (n : ℕ). first_where n (sought true from (sat ψ L))) reach ∙ ap (λ (n : ℕ). first_where to' (sought true n (sat ψ L))) from_now in
      rw (done_is, first_is, from_now, near_is, after_is)
      (since_said low high L.time (sat φ L) (sat ψ L) L.size i an.shown.falls (inside_here t v s L (since low high φ ψ) k i an) small)

  pub until_told : Answering (until low high φ ψ) t v s k L i →
      (over soon stop from to : ℕ) (l r : Scan) →
      over ≡ first_time L (L.time i + high + 1) → soon ≡ first_time L (L.time i + low) →
      Scanned (sat φ L) false i (min (over + 1) (settled_to φ L)) l →
      stop ≡ cond (ltb l.first l.done) l.first over → from ≡ max i soon → to ≡ min over (stop + 1) →
      Scanned (sat ψ L) true from (min to (settled_to ψ L)) r →
      found_saying Until (ltb r.first r.done) r.first stop (ltb l.first l.done) ≡ saying_of (until low high φ ψ) L i
  unfolding sat
  until_told an over soon stop from to l r over_is soon_is lefts stop_is from_is to_is rights =
      let open_left = open_settled φ L an.shown.unclosed in
      let open_right = open_settled ψ L an.shown.unclosed in
      let pl = progress φ L in
      let pr = progress ψ L in
      let over' = first_time L (L.time i + high + 1) in
      let soon' = first_time L (L.time i + low) in
      let asked' = min (over' + 1) pl in
      let failed' = first_where asked' (sought false i (sat φ L)) in
      let stop' = cond (ltb failed' asked') failed' over' in
      let from' = max i soon' in
      let seen' = min (min over' (stop' + 1)) pr in
      let asked_is : min (over + 1) (settled_to φ L) ≡ asked' = rw (over_is, open_left) refl in
      let l_done : l.done ≡ asked' = lefts.all ∙ asked_is in
      let l_first : l.first ≡ failed' = lefts.found ∙ ap (λ (n : ℕ). first_where n (sought false i (sat φ L))) asked_is in
      let stop_now : stop ≡ stop' = stop_is ∙ rw (l_done, l_first, over_is) refl in
      let from_now : from ≡ from' = from_is ∙ rw soon_is refl in
      let reach : min to (settled_to ψ L) ≡ seen' = rw (to_is, over_is, stop_now, open_right) refl in
      let r_done : r.done ≡ seen' = rights.all ∙ reach in
      let r_first : r.first ≡ first_where seen' (sought true from' (sat ψ L)) =
      rights.found ∙ ap (λ (n : ℕ). first_where n (sought true from (sat ψ L))) reach ∙ ap (λ (n : ℕ). first_where seen' (sought true n (sat ψ L))) from_now in
      let finite = until_finite t v s L low high φ ψ k i an in
      let (answered, settled) = (until_answered low high φ ψ L an.shown.falls i).0 (answered_here t v s L (until low high φ ψ) k i an) in
      rw (r_done, r_first, stop_now, l_done, l_first)
      (⊎_elim
      (λ y. yes_said low high L.time (sat φ L) (sat ψ L) L.size pl pr i an.shown.falls finite (progress_le_size φ L) (progress_le_size ψ L) answered y)
      (λ n. no_said low high L.time (sat φ L) (sat ψ L) L.size pl pr i an.shown.falls finite (progress_le_size φ L) (progress_le_size ψ L) answered n)
      settled)

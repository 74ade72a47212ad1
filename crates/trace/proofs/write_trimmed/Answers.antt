-- `trace::write_trimmed` meets its contract: header, count and records, each behind the last.
-- Assumes nothing.
use mathlib.Core.Path.{◌≡◌, refl, ◌∙◌, ap}
use mathlib.Core.List.{List}
use Prim.Native.Nat.{ℕ, ◌/◌, ◌%◌}
use native.Mathlib.Omega.{arith}
use Rattle.trace.specs.Making.{log_header, record_bytes, put}
use Rattle.trace.proofs.Making.{put_trimmed}
use Rattle.trace.proofs.write_trimmed.Goals as goal

pub returns : goal.returns
returns c =
    let a = c.args in
    let first = c.write_header in
    let count = c.write_record in
    let rest = c.copy in
    let n = a.dropped in
    let header_first : first.new.log ≡ put a.log.now 0 (log_header 3) = first.ensures in
    let count_behind : count.new.log ≡ put first.new.log 8 (record_bytes (n / 4294967296) (n % 4294967296)) = count.ensures in
    let all = rest.ensures in record {
      value = refl;
      log_after = all ∙
          ap (λ (l : List ℕ). put l 16 a.records.now) count_behind ∙
          ap (λ (l : List ℕ). put (put l 8 (record_bytes (n / 4294967296) (n % 4294967296))) 16 a.records.now) header_first ∙
          put_trimmed a.log.now n a.records.now (omega arith);
    }

-- `sentences::sentence::put_line` meets its contract: its parts, one behind the other.
use native.Mathlib.Omega.{arith}
use Rattle.decimal.specs.Text.{ascii}
use Rattle.decimal.proofs.Texts.{puts_more}
use Rattle.sentences.proofs.Lines.{short_entry, short_position, short_kind, short_value, short_tail}
use Rattle.sentences.proofs.sentence.put_line.Goals as goal

pub returns : goal.returns
unfolding ascii
returns c =
    let a = c.args in
    let few = short_entry a.k c.requires.0 in
    let few_places = short_position a.i c.requires.1 in
    let short = short_kind a.says.kind in
    let some = short_value a.says.number c.requires.2 in
    let end = short_tail a.says.tail in
    let n = c.put_number.ensures in
    let p = c.put.ensures in
    let m = c.put_number-2.ensures in
    let w = rw c.word_of.ensures at c.put-2.ensures in
    let v = c.put_value.ensures in
    let t = rw c.end_of.ensures at c.put-3.ensures in
    let n_ends = n.writes.ends in
    let p_ends = p.writes.ends in
    let m_ends = m.writes.ends in
    let w_ends = w.writes.ends in
    let v_ends = v.writes.ends in
    let t_ends = t.writes.ends in
    (puts_more n (puts_more p (puts_more m (puts_more w (puts_more v t)))), omega arith)

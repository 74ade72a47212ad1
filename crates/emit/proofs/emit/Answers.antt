-- `emit` meets its contract: what `give` promises for the rule's formulas, and the log noted.
use mathlib.Core.List.{List}
use mathlib.Core.Path.{refl}
use native.Mathlib.Omega.{arith}
use lib.ListN.{length, take}
use Rattle.mtl.specs.Formula.{Formula}
use Rattle.engine.specs.Tops.{Ended, LaidAs}
use Rattle.window.proofs.Marks.{made_views}
use Rattle.engine.specs.Table.{no_row}
use Rattle.engine.proofs.Rows.{repeated}
use Rattle.held.specs.Code.{plan, Fits}
use Rattle.emit.proofs.Emitting.{fits_of, emitted}
use Rattle.emit.proofs.emit.Goals as goal
use Rattle.emit.proofs.emit.Goals.{After-lay_out, After-lay_tops-tops}

-- the rule's entries, once they are laid out
entries_laid : (d : After-lay_out) →
    (fs : List Formula) → Ended d.args.rule.now.entries d.args.rule.now.count d.args.ends.now.at d.args.ends.now.number fs →
    LaidAs d.args.rule.now.entries d.args.rule.now.count d.lay_out.new.table d.args.ends.now.at d.args.ends.now.number fs
entries_laid d fs ended =
    let p = d.requires in
    record { few = p.few; well_formed = p.well_formed; rows = d.lay_out.ensures; ended = ended }

-- the rule's entries, once they are laid out
entries_laid_2 : (d : After-lay_tops-tops) →
    (fs : List Formula) → Ended d.args.rule.now.entries d.args.rule.now.count d.args.ends.now.at d.args.ends.now.number fs →
    LaidAs d.args.rule.now.entries d.args.rule.now.count d.lay_out.new.table d.args.ends.now.at d.args.ends.now.number fs
entries_laid_2 d fs ended =
    let p = d.requires in
    record { few = p.few; well_formed = p.well_formed; rows = d.lay_out.ensures; ended = ended }

-- its formulas, once they are
laid : (d : After-lay_tops-tops) →
    let s = d in
    Fits (plan d.lay_out.new.table (take s.args.ends.now.number d.lay_tops-tops.result)) s.args.base s.requires.the_formulas (length s.args.words.now)
laid d =
    let s = d in
    let a = s.args in
    fits_of a.rule.now.entries a.rule.now.count a.ends.now.at a.ends.now.number a.most a.base a.depth a.records.now a.words.now d.lay_out.new.table
    (take a.ends.now.number d.lay_tops-tops.result) s.requires s.requires.the_formulas s.requires.ended
    (d.lay_tops-tops.ensures a.rule.now.entries a.rule.now.count s.requires.the_formulas (entries_laid_2 d s.requires.the_formulas s.requires.ended))

pub lay_out-requires : goal.lay_out-requires
lay_out-requires c = (c.requires.well_formed, refl, λ k. repeated 128 k no_row)

pub lay_tops-tops-requires : goal.lay_tops-tops-requires
lay_tops-tops-requires c =
    let p = c.requires in
    (p.header.1, (c.args.rule.now.entries, c.args.rule.now.count, p.the_formulas, entries_laid (goal.at.lay_tops-tops-requires c).After-lay_out p.the_formulas p.ended))

pub write_view-view-requires : goal.write_view-view-requires
write_view-view-requires c = let p = c.requires in (omega (arith, p.size, p.header.0), p.given)

pub shift_of-shift-requires : goal.shift_of-shift-requires
shift_of-shift-requires c = let p = c.requires in omega (arith, p.size, p.header.0)

pub give-emitted-requires : goal.give-emitted-requires
give-emitted-requires c =
    let p = c.requires in (
      record {
        fits = (c.args.base, p.the_formulas, laid (goal.at.give-emitted-requires c).After-lay_tops-tops, p.header.2);
        formulas = omega (arith, (laid (goal.at.give-emitted-requires c).After-lay_tops-tops).laid.number, p.ended.number, p.formulas);
        small = p.small;
        given = p.given;
        noes = p.noes;
      },
      c.new-copy.ensures c.args.records.now,
      c.new-waiting.ensures c.args.records.now,
      made_views c.write_view-view.ensures (omega (arith, p.wanted, p.records)),
    )

pub note-requires : goal.note-requires
note-requires c =
    let p = c.requires in
    let g = c.give-emitted.ensures c.args.base p.the_formulas (laid (goal.at.note-requires c).After-lay_tops-tops) p.header.2 in
    (omega (arith, g.words_length, p.size, p.header.0), omega (arith, g.frame.header 7 (omega arith) (λ e. omega arith), p.wanted))

pub returns : goal.returns
returns c fs ended deep =
    let a = c.args in
    let g = c.give-emitted in
    let view = c.write_view-view in
    let y = c.note in
    let fits = fits_of a.rule.now.entries a.rule.now.count a.ends.now.at a.ends.now.number a.most a.base a.depth a.records.now a.words.now c.lay_out.new.table
    (take a.ends.now.number c.lay_tops-tops.result) c.requires fs ended (c.lay_tops-tops.ensures a.rule.now.entries a.rule.now.count fs (entries_laid (goal.at.returns c).After-lay_out fs ended)) in
    emitted a.skips a.closed a.records.now a.words.now a.sheet.now view.result g.result g.new.words
    g.new.sheet y.new.words fits (λ i. (c.type_inv.records i).fits)
    (rw deep at view.ensures) (g.ensures a.base fs fits c.requires.header.2) (rw deep at y.ensures)

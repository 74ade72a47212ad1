-- `engine::answer_letter` meets its contract: a letter's words are its own block.
use Rattle.engine.proofs.Letters.{letter_answers}
use Rattle.engine.proofs.answer_letter.Goals as goal

pub returns-clause-answers : goal.returns-clause-answers
returns-clause-answers c =
    let a = c.args in
    let read = c.read_letter in
    letter_answers a.table.now a.view.now a.records.now a.k a.words.now _ c.requires.2 c.from-letter.ensures read.result read.ensures.ends read.ensures.steps

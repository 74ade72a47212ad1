-- `bytes::lacks_mark` meets its contract: it compares the bytes that `lacks` compares.
use Rattle.rule.proofs.bytes.lacks_mark.Goals as goal

pub returns : goal.returns
returns c =
    simp (c.byte_at.ensures, c.byte_at-2.ensures, c.byte_at-3.ensures, c.byte_at-4.ensures, c.byte_at-5.ensures, c.byte_at-6.ensures)

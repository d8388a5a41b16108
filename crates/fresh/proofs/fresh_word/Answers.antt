use mathlib.Core.Path.{◌∙◌}
use Rattle.fresh.proofs.Words.{word-free, word-list, word-link, word-data, word_row}
use Rattle.fresh.proofs.fresh_word.Goals as goal

pub returns-then-k-lt-READ_QUEUES : goal.returns-then-k-lt-READ_QUEUES
returns-then-k-lt-READ_QUEUES c = word-free _ c.if-k-lt-READ_QUEUES.true

pub returns-then-k-lt-LINKS : goal.returns-then-k-lt-LINKS
returns-then-k-lt-LINKS c = word-list _ c.if-k-lt-READ_QUEUES.false c.if-k-lt-LINKS.true

pub returns-then-i-eq0 : goal.returns-then-i-eq0
returns-then-i-eq0 c =
    c.fresh_link.ensures
    ∙ word-link _ c.if-k-lt-READ_QUEUES.false c.if-k-lt-LINKS.false c.if-k-lt-FILE_ROWS.true
    c.if-i-eq0.true

pub returns-then-k-lt-FILE_ROWS : goal.returns-then-k-lt-FILE_ROWS
returns-then-k-lt-FILE_ROWS c = word-data _ c.if-k-lt-READ_QUEUES.false c.if-k-lt-LINKS.false c.if-k-lt-FILE_ROWS.true c.if-i-eq0.false

pub returns : goal.returns
returns c = word_row _ c.if-k-lt-READ_QUEUES.false c.if-k-lt-LINKS.false c.if-k-lt-FILE_ROWS.false

use Rattle.looking.proofs.Files.{file-asks, body-inside, file-found, file-empty}
use native.Mathlib.Omega.{arith}
use Rattle.looking.proofs.finding.of_file.Goals as goal

pub oldest-requires : goal.oldest-requires
oldest-requires c =
    file-asks _ _ _ _ _ c.take_file-file.ensures c.share-share.ensures c.requires

pub overflow_add-result : goal.overflow_add-result
overflow_add-result c =
    record {
      fits = omega (
        arith,
        c.requires.file,
        body-inside _ _ _ _ _ c.take_file-file.ensures c.share-share.ensures c.requires _
            c.in-Some.ensures.readable,
      );
    }

pub overflow_add-result-2 : goal.overflow_add-result-2
overflow_add-result-2 c =
    record {
      fits = omega (
        arith,
        c.requires.file,
        body-inside _ _ _ _ _ c.take_file-file.ensures c.share-share.ensures c.requires _
            c.in-Some.ensures.readable,
      );
    }

pub returns : goal.returns
returns c =
    file-found _ _ _ _ _ c.take_file-file.ensures c.share-share.ensures c.requires _ c.oldest.ensures.place _ _
    c.in-Some.is
    c.in-Some.ensures.readable c.header-record.ensures

pub returns-in_default : goal.returns-in_default
returns-in_default c =
    file-empty _ _ _ _ _ c.take_file-file.ensures c.share-share.ensures c.requires _
    c.oldest.ensures.place c.in_default.is

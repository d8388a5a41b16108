-- A place's row under a control.
use Rattle.kinds.specs.declared.Control.{Control}
use Rattle.kinds.specs.declared.Control.TheVariants.{Timeout, Verify, Abort, Extended, Typed, Keep}
use Rattle.segment.specs.declared.PlaceRow.{PlaceRow}

-- the row of a place after a control: the setting is the parameter
unfoldable pub changed_row : Control → PlaceRow → PlaceRow
changed_row (Timeout v) r =
    record { side = r.side; id = r.id; share = r.share; timeout = v; extended = r.extended; typed = r.typed; keep = r.keep; first = r.first }
changed_row (Verify v) r = r
changed_row (Abort v) r = r
changed_row (Extended v) r =
    record { side = r.side; id = r.id; share = r.share; timeout = r.timeout; extended = v; typed = r.typed; keep = r.keep; first = r.first }
changed_row (Typed v) r =
    record { side = r.side; id = r.id; share = r.share; timeout = r.timeout; extended = r.extended; typed = v; keep = r.keep; first = r.first }
changed_row (Keep v) r =
    record { side = r.side; id = r.id; share = r.share; timeout = r.timeout; extended = r.extended; typed = r.typed; keep = v; first = r.first }

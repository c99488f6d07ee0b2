-- The laws that the check is handed at each goal: where a record stands and the reader goes on, and where a record's contents lie.
use Rattle.record.proofs.HeaderReadLaws.{header-room}
use Rattle.record.proofs.HeldLaws.{good-buffer}
use Rattle.term_checker.proofs.WalkLaws.{moved_inside, record_inside, record_least, record_next}

pub ruleset found = (record_inside, record_least, record_next, moved_inside, good-buffer, header-room)

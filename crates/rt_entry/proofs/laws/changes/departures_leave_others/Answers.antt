use Rattle.rt_entry.proofs.Departing.{leaves_tracks, departures_add, leaves_parts}
use Rattle.rt_entry.proofs.laws.changes.departures_leave_others.Goals as goal

pub returns : goal.returns
returns c = record { tracks = leaves_tracks; together = departures_add; parts = leaves_parts }

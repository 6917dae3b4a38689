use Rattle.key_claims.proofs.tracks.Tracks.publish.Goals as goal

pub returns-clause-ok : goal.returns-clause-ok
returns-clause-ok c =
    let r = c.in_ok-ready.ensures.ok in
    record { at = r.at; place = c.in_ok-ready.ready.place; first = r.first; next = r.next; clear = r.clear; delivered = r.delivered; tracks = r.tracks; claims = r.claims }

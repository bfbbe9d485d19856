mod TestHands
